use Rattle.std.proofs.Common.{◌≡◌, ◌<◌, false, get_or, ℕ}
use Rattle.uri_references.specs.Components.{ends}
use Rattle.uri_references.proofs.components.Component.end_in.Given as goal

abbrev pub invariant-loop-place : goal.invariant-loop-place
invariant-loop-place l = (k : ℕ) → k < l.place → ends l.self (get_or l.text k 0) ≡ false
