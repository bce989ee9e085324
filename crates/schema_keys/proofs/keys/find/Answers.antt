use Rattle.std.proofs.Common.{◌≡◌, List, Some, ap, map, nat_eq, length, option_map, refl, sym, ◌∙◌, subst, arith, true≢false}
use Rattle.std.proofs.lemmas.List.{length-map}
use Rattle.std.proofs.lemmas.Option.{slice_get-map, slice_get_read}
use Rattle.std.specs.HashMap.{get}
use Rattle.std.specs.Rc.{rc_value}
use Rattle.schema_keys.specs.KeyViews.{key_of}
use Rattle.schema_keys.specs.KeyHashes.{IsChained, hash_of}
use Rattle.schema_keys.specs.declared.key.SchemaKey.{SchemaKey}
use Rattle.schema_keys.proofs.Chains.{falls, seeks_earlier, seeks_none, seeks_within}
use Rattle.schema_keys.proofs.SameKeys.{not_at, shared_at}
use Rattle.schema_keys.proofs.keys.find.Goals as goal

pub loop-next-preserved : goal.loop-next-preserved
loop-next-preserved g c =
    let point = g.R.Resolver.point in
    let input = g.R.State.Hash.hash_input in
    let alike : (s t : g.row.R-State.Denot) → g.R.Resolver.point s ≡ g.R.Resolver.point t → g.R.State.Hash.hash_input s ≡ g.R.State.Hash.hash_input t = λ s t e. g.met.R.State.Hash.respects_eq s t ((g.met.R.Resolver.equal s t).1 e) in
    let keys = c.args.keys.now in
    let earlier = c.keys.inside.earlier.items in
    let last = get nat_eq c.keys.inside.last in
    let number = c.in-Some.number in
    let s = rw c.in-Some.is at c.loop-next.invariant in
    let chain : IsChained (map (hash_of input) keys) earlier last = subst (λ (ks : List (SchemaKey g.row.R-State.Denot)). IsChained (map (hash_of input) ks) earlier last) c.keys.view_is c.keys.invariant in
    let within = seeks_within point input alike keys c.args.key.now number s in
    let linked = slice_get_read earlier (length earlier) number c.index-next.result.now refl (omega (arith, chain.lengths, length-map keys (λ (a : SchemaKey g.row.R-State.Denot). hash_of input a))) c.index-next.ensures in
    let at = shared_at rc_value c.keys.inside.keys.items keys number c.index.result.now c.keys.view_is within c.index.ensures ∙ ap Some (sym c.deref.ensures) in
    let differs = not_at (key_of point) keys number c.deref.result.now (key_of point c.args.key.now) at (λ e. true≢false (sym (c.if-same_key.ensures.same.1 e) ∙ refl)) in
    seeks_earlier point input alike keys c.args.key.now earlier last number c.index-next.result.now chain s linked differs

pub loop-next-smaller : goal.loop-next-smaller
loop-next-smaller g c =
    let input = g.R.State.Hash.hash_input in
    let alike : (s t : g.row.R-State.Denot) → g.R.Resolver.point s ≡ g.R.Resolver.point t → g.R.State.Hash.hash_input s ≡ g.R.State.Hash.hash_input t = λ s t e. g.met.R.State.Hash.respects_eq s t ((g.met.R.Resolver.equal s t).1 e) in
    let keys = c.args.keys.now in
    let earlier = c.keys.inside.earlier.items in
    let number = c.in-Some.number in
    let s = rw c.in-Some.is at c.loop-next.invariant in
    let chain : IsChained (map (hash_of input) keys) earlier (get nat_eq c.keys.inside.last) = subst (λ (ks : List (SchemaKey g.row.R-State.Denot)). IsChained (map (hash_of input) ks) earlier (get nat_eq c.keys.inside.last)) c.keys.view_is c.keys.invariant in
    let within = seeks_within g.R.Resolver.point input alike keys c.args.key.now number s in
    let linked = slice_get_read earlier (length earlier) number c.index-next.result.now refl (omega (arith, chain.lengths, length-map keys (λ (a : SchemaKey g.row.R-State.Denot). hash_of input a))) c.index-next.ensures in
    rw c.in-Some.is (falls (map (hash_of input) keys) (hash_of input c.args.key.now) number c.index-next.result.now (chain.links number (hash_of input c.args.key.now) c.index-next.result.now s.last.1 linked))

pub returns : goal.returns
returns g c = record { found = seeks_none g.R.Resolver.point g.R.State.Hash.hash_input (λ s t e. g.met.R.State.Hash.respects_eq s t ((g.met.R.Resolver.equal s t).1 e)) c.args.keys.now c.args.key.now (rw c.in_default.is at c.loop-next.invariant) }

pub returns-then-same_key : goal.returns-then-same_key
returns-then-same_key g c =
    let v = key_of g.R.Resolver.point in
    let alike : (s t : g.row.R-State.Denot) → g.R.Resolver.point s ≡ g.R.Resolver.point t → g.R.State.Hash.hash_input s ≡ g.R.State.Hash.hash_input t = λ s t e. g.met.R.State.Hash.respects_eq s t ((g.met.R.Resolver.equal s t).1 e) in
    let keys = c.args.keys.now in
    let number = c.in-Some.number in
    let s = rw c.in-Some.is at c.loop-next.invariant in
    let within = seeks_within g.R.Resolver.point g.R.State.Hash.hash_input alike keys c.args.key.now number s in
    let at = shared_at rc_value c.keys.inside.keys.items keys number c.index.result.now c.keys.view_is within c.index.ensures ∙ ap Some (sym c.deref.ensures) in
    record { found = slice_get-map v keys number ∙ ap (option_map v) at ∙ ap Some (c.if-same_key.ensures.same.0 refl) }

pub index-next-requires : goal.index-next-requires
index-next-requires g c =
    let input = g.R.State.Hash.hash_input in
    let alike : (s t : g.row.R-State.Denot) → g.R.Resolver.point s ≡ g.R.Resolver.point t → g.R.State.Hash.hash_input s ≡ g.R.State.Hash.hash_input t = λ s t e. g.met.R.State.Hash.respects_eq s t ((g.met.R.Resolver.equal s t).1 e) in
    let keys = c.args.keys.now in
    let earlier = c.keys.inside.earlier.items in
    let number = c.in-Some.number in
    let s = rw c.in-Some.is at c.loop-next.invariant in
    let chain : IsChained (map (hash_of input) keys) earlier (get nat_eq c.keys.inside.last) = subst (λ (ks : List (SchemaKey g.row.R-State.Denot)). IsChained (map (hash_of input) ks) earlier (get nat_eq c.keys.inside.last)) c.keys.view_is c.keys.invariant in
    let within = seeks_within g.R.Resolver.point input alike keys c.args.key.now number s in
    omega (arith, chain.lengths, length-map keys (λ (a : SchemaKey g.row.R-State.Denot). hash_of input a))
