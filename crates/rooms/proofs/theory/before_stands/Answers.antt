use Rattle.rooms.proofs.Before.{ends_or_circle, shown_longest}
use Rattle.rooms.proofs.theory.before_stands.Goals as goal

pub returns : goal.returns
returns c = record { shown = shown_longest; circle = ends_or_circle }
