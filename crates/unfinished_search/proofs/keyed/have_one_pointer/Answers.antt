use Rattle.std.proofs.Common.{◌≡◌, ◌∙◌, ap, sym, true}
use Rattle.std.proofs.lemmas.Slice.Eq.{bytes_eq-Decides}
use Rattle.theory_definitions.specs.Pointer.{pointer_to}
use Rattle.theory_meaning.proofs.SameRun.{place_is}
use Rattle.unfinished_search.proofs.keyed.have_one_pointer.Goals as goal

pub returns-then-eq : goal.returns-then-eq
returns-then-eq c =
    let found : c.eq.result ≡ true = c.if-eq.true in
    let place = place_is c.args.one.now c.args.other.now (sym c.eq.ensures ∙ found) in
    record { same = sym ((bytes_eq-Decides (pointer_to c.args.one.now) (pointer_to c.args.other.now)).1 (ap pointer_to place)) }
