use Rattle.std.proofs.Common.{arith, ◌≡◌, ◌∙◌, ap, length, nat_eq, true, sym, refl, subst, List}
use Rattle.std.proofs.lemmas.Grind.{common_steps}
use Rattle.std.proofs.lemmas.Option.{slice_get_read}
use Rattle.std.specs.HashMap.{get}
use Rattle.std.specs.Prelude.{None, Some}
use Rattle.unfinished_matches.specs.HashIndex.{match_hash}
use Rattle.theory_definitions.specs.Matching.{Pair, same_pair}
use Rattle.theory_definitions.specs.Matching.{Assumed, assumed}
use Rattle.unfinished_matches.proofs.MatchesIndexed.{no_outcome, outcome_there, outcome_within}
use Rattle.unfinished_matches.proofs.assumptions.IndexedOutcomes.outcome.Goals as goal

pub index-one-requires : goal.index-one-requires
index-one-requires c =
    let a : Pair = record { pattern = c.args.pattern.now; subject = c.args.subject.now } in
    let first = get nat_eq c.self.inside.positions in
    let e1 = c.in-Some.ensures.value in let e2 = c.in-Some.is in let e3 = c.match_hash.ensures.hash in
    let at : first (match_hash a) ≡ Some c.in-Some.position.now = grind (arith, common_steps) in
    let within = outcome_within first a c.self.inside.matches.items c.self.invariant c.in-Some.position.now at in
    grind (arith, common_steps)

pub returns-then-is : goal.returns-then-is
returns-then-is c =
    let a : Pair = record { pattern = c.args.pattern.now; subject = c.args.subject.now } in
    let first = get nat_eq c.self.inside.positions in
    let list = c.self.inside.matches.items in
    let e1 = c.in-Some.ensures.value in let e2 = c.in-Some.is in let e3 = c.match_hash.ensures.hash in
    let at : first (match_hash a) ≡ Some c.in-Some.position.now = grind (arith, common_steps) in
    let within = outcome_within first a list c.self.invariant c.in-Some.position.now at in
    let there = slice_get_read list (length list) c.in-Some.position.now c.index-one.result.now refl within c.index-one.ensures in
    let found : c.is.result ≡ true = c.if-is.true in
    let same : same_pair a c.index-one.result.now.pair ≡ true = rw (sym c.one.view_is) (sym c.is.ensures.same ∙ found) in
    let outcome = outcome_there first a list c.self.invariant c.in-Some.position.now c.index-one.result.now at there same in
    record { assumed = ap (λ (x : Assumed). Some x.outcome) c.one.view_is ∙ sym (subst (λ (xs : List Assumed). assumed xs a ≡ Some c.index-one.result.now.outcome) c.self.view_is outcome) }

pub returns-in-None : goal.returns-in-None
returns-in-None c =
    let a : Pair = record { pattern = c.args.pattern.now; subject = c.args.subject.now } in
    let first = get nat_eq c.self.inside.positions in
    let list = c.self.inside.matches.items in
    let e1 = c.in-None.ensures.value in let e2 = c.in-None.is in let e3 = c.match_hash.ensures.hash in
    let at : first (match_hash a) ≡ None = grind (arith, common_steps) in
    record { assumed = sym (subst (λ (xs : List Assumed). assumed xs a ≡ None) c.self.view_is (no_outcome first a list c.self.invariant at)) }
