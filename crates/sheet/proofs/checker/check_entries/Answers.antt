use Rattle.std.proofs.Common.{ℕ, sym, ap, ◌∙◌, arith, Option}
use Rattle.rooms.specs.Before.{on_circle}
use Rattle.rooms.specs.First.{found}
use Rattle.rooms.specs.View.{house}
use Rattle.rents.specs.Faults.{length_fault, number_fault, rent_fault, room_fault, way_fault}
use Rattle.sheet.specs.declared.statement.Sharing.{Sharing}
use Rattle.sheet.specs.Entries.{entered}
use Rattle.sheet.specs.Judge.{price_fault}
use Rattle.sheet.specs.Statement.{claimed_by, house_in, sheet_in}
use Rattle.sheet.proofs.Judged.{from_circles, from_lengths, from_numbers, from_prices, from_rooms, from_ways, housed_from, linked_from, named_found, named_pair, named_price, pair_small, past_circles, past_lengths, past_numbers, past_prices, past_rooms, past_ways}
use Rattle.sheet.proofs.checker.check_entries.Goals as goal

pub returns-in-Some-clause-judged : goal.returns-in-Some-clause-judged
returns-in-Some-clause-judged c =
    let h = house c.args.group in
    let s = entered h.n c.args.entries.now in
    sym (from_rooms h s ∙ named_found (room_fault h s.claim) h.n (λ i. (7, i)) (from_numbers h s) _ c.in-Some.ensures)

pub returns-in-Some-first_numbers-clause-judged : goal.returns-in-Some-first_numbers-clause-judged
returns-in-Some-first_numbers-clause-judged c =
    let h = house c.args.group in
    let s = entered h.n c.args.entries.now in
    sym (past_rooms h s c.in_default.ensures ∙ named_pair (number_fault h s.claim) h.n 8 (from_lengths h s) _ _ c.in-Some-first_numbers.ensures)

pub returns-in-Some-first_numbers-clause-plain : goal.returns-in-Some-first_numbers-clause-plain
returns-in-Some-first_numbers-clause-plain c =
    let h = house c.args.group in
    pair_small (number_fault h (entered h.n c.args.entries.now).claim) h.n _ _ (omega arith) c.in-Some-first_numbers.ensures

pub invariant_of-sharing : goal.invariant_of-sharing
invariant_of-sharing c =
    let h = house c.args.group in
    let s = entered h.n c.args.entries.now in
    record { housed = housed_from h s c.in_default.ensures c.requires }

pub returns-in-Some-first_length-clause-judged : goal.returns-in-Some-first_length-clause-judged
returns-in-Some-first_length-clause-judged c =
    let h = house c.args.group in
    let s = entered h.n c.args.entries.now in
    sym (past_numbers h s c.in_default.ensures c.in_default-first_numbers.ensures
    ∙ named_found (length_fault h s.claim) h.n (λ i. (9, i)) (from_circles h s) _ c.in-Some-first_length.ensures)

pub first_circle-requires : goal.first_circle-requires
first_circle-requires c =
    let h = house c.args.group in
    linked_from h (entered h.n c.args.entries.now).claim c.in_default-first_length.ensures

pub returns-in-Some-first_circle-clause-judged : goal.returns-in-Some-first_circle-clause-judged
returns-in-Some-first_circle-clause-judged c =
    let h = house c.args.group in
    let s = entered h.n c.args.entries.now in
    sym (past_lengths h s c.in_default.ensures c.in_default-first_numbers.ensures c.in_default-first_length.ensures
    ∙ named_found (on_circle s.claim.before h.n) h.n (λ i. (9, i)) (from_ways h s) _ c.in-Some-first_circle.ensures)

pub returns-in-Some-first_ways-clause-judged : goal.returns-in-Some-first_ways-clause-judged
returns-in-Some-first_ways-clause-judged c =
    let h = house c.args.group in
    let s = entered h.n c.args.entries.now in
    sym (past_circles h s c.in_default.ensures c.in_default-first_numbers.ensures c.in_default-first_length.ensures c.in_default-first_circle.ensures
    ∙ named_pair (way_fault h s.claim) h.n 10 (from_prices h s) _ _ c.in-Some-first_ways.ensures)

pub returns-in-Some-first_ways-clause-plain : goal.returns-in-Some-first_ways-clause-plain
returns-in-Some-first_ways-clause-plain c =
    let h = house c.args.group in
    pair_small (way_fault h (entered h.n c.args.entries.now).claim) h.n _ _ (omega arith) c.in-Some-first_ways.ensures

-- Of the terms it is known whose they are.
abbrev prices : Sharing → Option ℕ
prices s = found (price_fault (house_in s.stated) (sheet_in s.stated)) (house_in s.stated).n

pub returns-in-None-clause-judged : goal.returns-in-None-clause-judged
returns-in-None-clause-judged c =
    let h = house c.args.group in
    let s = entered h.n c.args.entries.now in
    sym (past_prices h s c.in_default.ensures c.in_default-first_numbers.ensures c.in_default-first_length.ensures c.in_default-first_circle.ensures c.in_default-first_ways.ensures
    (c.in-None.ensures ∙ ap prices c.reckon-terms.ensures))

pub returns-in-Some-first_price-clause-judged : goal.returns-in-Some-first_price-clause-judged
returns-in-Some-first_price-clause-judged c =
    let h = house c.args.group in
    let s = entered h.n c.args.entries.now in
    sym (past_ways h s c.in_default.ensures c.in_default-first_numbers.ensures c.in_default-first_length.ensures c.in_default-first_circle.ensures c.in_default-first_ways.ensures
    ∙ named_price h s _ _ (c.in-Some-first_price.ensures ∙ ap prices c.reckon-terms.ensures)
    (sym c.if-rent_off.true ∙ c.rent_off.ensures ∙ ap (λ (z : Sharing). rent_fault (house_in z.stated) (claimed_by z.stated) c.in-Some-first_price.room) c.reckon-terms.ensures))

pub returns-in-Some-2-clause-judged : goal.returns-in-Some-2-clause-judged
returns-in-Some-2-clause-judged c =
    let h = house c.args.group in
    let s = entered h.n c.args.entries.now in
    sym (past_ways h s c.in_default.ensures c.in_default-first_numbers.ensures c.in_default-first_length.ensures c.in_default-first_circle.ensures c.in_default-first_ways.ensures
    ∙ named_price h s _ _ (c.in-Some-first_price.ensures ∙ ap prices c.reckon-terms.ensures)
    (sym c.if-rent_off.false ∙ c.rent_off.ensures ∙ ap (λ (z : Sharing). rent_fault (house_in z.stated) (claimed_by z.stated) c.in-Some-first_price.room) c.reckon-terms.ensures))
