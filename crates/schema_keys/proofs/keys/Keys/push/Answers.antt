use Rattle.std.proofs.Common.{◌≡◌, ◌∷◌, ◌++◌, [], List, Some, ap, cond, length, map, nat_eq, ℕ, arith, ◌∙◌}
use Rattle.std.proofs.lemmas.List.{length-map, map-append}
use Rattle.std.specs.HashMap.{get}
use Rattle.std.specs.Rc.{rc_value}
use Rattle.std.specs.declared.rc.Rc.{Rc}
use Rattle.schema_keys.specs.KeyHashes.{hash_of}
use Rattle.schema_keys.specs.declared.key.SchemaKey.{SchemaKey}
use Rattle.schema_keys.proofs.Chains.{chained_more}
use Rattle.schema_keys.proofs.keys.Keys.push.Goals as goal

pub invariant_of-self-2 : goal.invariant_of-self-2
invariant_of-self-2 g c =
    let shared = c.self.inside.keys.items in
    let keys = map rc_value shared in
    let earlier = c.self.inside.earlier.items in
    let last = get nat_eq c.self.inside.last in
    let input = g.S.Hash.hash_input in
    let hashes = map (hash_of input) keys in
    let h = hash_of input c.args.key.value in
    let hash : c.hash_of-hash.result ≡ h = c.hash_of-hash.ensures.hash ∙ ap (λ (k : SchemaKey g.row.S.Denot). hash_of input k) c.deref.ensures in
    let number : length shared ≡ length hashes = omega (arith, length-map shared (λ (a : Rc (SchemaKey g.row.S.Denot) _). a.value), length-map keys (λ (a : SchemaKey g.row.S.Denot). hash_of input a)) in
    let updates : (q : ℕ) → get nat_eq c.link.new.last q ≡ cond (nat_eq h q) (Some (length hashes)) (last q) = λ q. c.in_ok-link.ensures.last q
    ∙ ap (λ x. cond (nat_eq x q) (Some (length shared)) (last q)) hash ∙ ap (λ n. cond (nat_eq h q) (Some n) (last q)) number in
    let pushed : c.push.new.self.items ≡ shared ++ c.args.key ∷ [] = c.in_ok-push.ensures.items ∙ ap (λ (ks : List (Rc (SchemaKey g.row.S.Denot) _)). ks ++ c.args.key ∷ []) c.in_ok-link.ensures.keys in
    let pushed' : map (hash_of input) (map rc_value c.push.new.self.items) ≡ hashes ++ h ∷ [] = ap (λ (ks : List (Rc (SchemaKey g.row.S.Denot) _)). map (hash_of input) (map rc_value ks)) pushed
    ∙ ap (map (hash_of input)) (map-append rc_value shared (c.args.key ∷ [])) ∙ map-append (hash_of input) keys (c.args.key.value ∷ []) in
    let linked : c.link.new.earlier.items ≡ earlier ++ last h ∷ [] = c.in_ok-link.ensures.linked ∙ ap (λ x. earlier ++ last x ∷ []) hash in
    rw (pushed', linked) (chained_more hashes earlier last (get nat_eq c.link.new.last) h c.self.invariant updates)
