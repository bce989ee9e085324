use Rattle.std.proofs.Common.{arith, ◌≡◌, ◌∙◌, ap, length, nat_eq, true, sym, refl, subst, List}
use Rattle.std.proofs.lemmas.Grind.{common_steps}
use Rattle.std.proofs.lemmas.Option.{slice_get_read}
use Rattle.std.specs.HashMap.{get}
use Rattle.std.specs.Prelude.{None, Some, is_some}
use Rattle.unfinished_matches.specs.HashIndex.{match_hash}
use Rattle.theory_definitions.specs.Matching.{Pair, same_pair}
use Rattle.theory_definitions.specs.Runs.{Met}
use Rattle.theory_definitions.specs.Unfinished.{site_of}
use Rattle.unfinished_matches.proofs.MatchesIndexed.{no_site, site_there, site_within}
use Rattle.unfinished_matches.proofs.located.LocatedMatches.contains.Goals as goal

pub index-requires : goal.index-requires
index-requires c =
    let a : Pair = record { pattern = c.args.pattern.now; subject = c.args.subject.now } in
    let first = get nat_eq c.self.inside.positions in
    let e1 = c.in-Some.ensures.value in let e2 = c.in-Some.is in let e3 = c.match_hash.ensures.hash in
    let at : first (match_hash a) ≡ Some c.in-Some.position.now = grind (arith, common_steps) in
    let within = site_within first a c.self.inside.matches.items c.self.invariant c.in-Some.position.now at in
    grind (arith, common_steps)

pub returns-then-is : goal.returns-then-is
returns-then-is c =
    let a : Pair = record { pattern = c.args.pattern.now; subject = c.args.subject.now } in
    let first = get nat_eq c.self.inside.positions in
    let ms = c.self.inside.matches.items in
    let e1 = c.in-Some.ensures.value in let e2 = c.in-Some.is in let e3 = c.match_hash.ensures.hash in
    let at : first (match_hash a) ≡ Some c.in-Some.position.now = grind (arith, common_steps) in
    let within = site_within first a ms c.self.invariant c.in-Some.position.now at in
    let there = slice_get_read ms (length ms) c.in-Some.position.now c.index.result.now refl within c.index.ensures in
    let found : c.is.result ≡ true = c.if-is.true in
    let same : same_pair a c.index.result.now.pair ≡ true = rw (sym c.unfinished.ensures) (sym c.is.ensures.same ∙ found) in
    let site = site_there first a ms c.self.invariant c.in-Some.position.now c.index.result.now at there same in
    record { has = found ∙ sym (ap is_some (subst (λ (xs : List Met). site_of xs a ≡ Some c.index.result.now.site) c.self.view_is site)) }

pub returns-in-None : goal.returns-in-None
returns-in-None c =
    let a : Pair = record { pattern = c.args.pattern.now; subject = c.args.subject.now } in
    let first = get nat_eq c.self.inside.positions in
    let ms = c.self.inside.matches.items in
    let e1 = c.in-None.ensures.value in let e2 = c.in-None.is in let e3 = c.match_hash.ensures.hash in
    let at : first (match_hash a) ≡ None = grind (arith, common_steps) in
    record { has = sym (ap is_some (subst (λ (xs : List Met). site_of xs a ≡ None) c.self.view_is (no_site first a ms c.self.invariant at))) }
