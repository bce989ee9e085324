-- What a course of finding keeps, that its start determines it, and how courses are put together.
use Rattle.std.proofs.Common.{◌≡◌, ℕ, zero, suc, ◌+◌, List, [], ◌∷◌, ◌++◌, length, map, refl, ap, sym, ◌∙◌, subst, arith, append_assoc, append-nil}
use Rattle.std.specs.Prelude.{Bool, None, Option, Some, slice_get}
use Rattle.serde_json.specs.declared.value.Value.{Value}
use Rattle.std.proofs.lemmas.Option.{slice_get_within}
use Rattle.theory_definitions.specs.Instance.{Text}
use Rattle.theory_definitions.specs.Guarded.{NodePlan}
use Rattle.theory_definitions.specs.Parts.{Parts}
use Rattle.theory_definitions.specs.Plan.{Edge, Key}
use Rattle.theory_meaning.specs.Reach.{asked_edges}
use Rattle.schema_node_table.specs.NodeTable.{NodeEntry, filled_count}
use Rattle.schema_keys.specs.Refusing.{AreDistinct}
use Rattle.schema_compiler.specs.Finding.{Course, Finds, FindsAll, Standing, Visits, WorksOff, and_then, at_end, at_root, begun, closed, formed, formed_count, in_a_round, is_opened, is_put, no_more, passed, passes_over, put, round_begun, standing_of, waits, was_found}
use Rattle.schema_keys.proofs.Lists.{length-more, set-length, some_is}
use Rattle.schema_compiler.proofs.Tables.{pushed_distinct}

-- a course continues: keys are appended, and the round and the count of open targets are the same
-- after
pub record GoesOn {S : Type 0} (c d : Course S) : Type 0 where
  pub more : List (Key S)
  pub keys : d.keys ≡ c.keys ++ more
  pub round : d.round ≡ c.round
  pub depth : d.depth ≡ c.depth

-- each key occurs once and has a state
pub record IsEven {S : Type 0} (c : Course S) : Type 0 where
  pub distinct : AreDistinct c.keys
  pub lengths : length c.standings ≡ length c.keys

root_distinct : {S : Type 0} (root : Key S) → AreDistinct (root ∷ [])
root_distinct root zero zero k a b = refl
root_distinct root zero (suc j) k a b = absurd (let g : ⊥ = cc in g)
root_distinct root (suc i) j k a b = absurd (let g : ⊥ = cc in g)

pub root_even : {S : Type 0} (root : Key S) → IsEven (at_root root)
root_even root = record { distinct = root_distinct root; lengths = refl }

module _ {S K R : Type 0} (w : Parts S K R) (nested : ℕ) where
  -- ---- courses put together

  pub finds_append : {c d c' : Course S} {es es' : List (Edge S)} → Finds w nested c es d → Finds w nested d es' c' → Finds w nested c (es ++ es') c'
  finds_append no_more g = g
  finds_append (and_then d i v f) g = and_then d i v (finds_append f g)

  pub finds_one : {c : Course S} {e : Edge S} {d : Course S} {i : ℕ} → Visits w nested c e d i → Finds w nested c (e ∷ []) (passed d i)
  finds_one {d = d} {i = i} v = and_then d i v no_more

  -- ---- what is kept

  stays : (c : Course S) → GoesOn c c
  stays c = record { more = []; keys = sym (append-nil c.keys); round = refl; depth = refl }

  goes_through : {c d c' : Course S} (i : ℕ) → GoesOn c d → GoesOn (passed d i) c' → GoesOn c c'
  goes_through {c} {d} {c'} i g h = record {
    more = g.more ++ h.more;
    keys = h.keys ∙ (ap (λ ks. ks ++ h.more) g.keys ∙ append_assoc c.keys g.more h.more);
    round = h.round ∙ g.round;
    depth = h.depth ∙ g.depth;
  }

  goes_put : (c c' : Course S) (k : Key S) → c' ≡ put c k → GoesOn c c'
  goes_put c c' k eq = subst (λ x. GoesOn c x) (sym eq) (record { more = k ∷ []; keys = refl; round = refl; depth = refl })

  goes_closed : (c c' d : Course S) (e : Edge S) → GoesOn (begun c e) d → c' ≡ closed c d → GoesOn c c'
  goes_closed c c' d e g eq = subst (λ x. GoesOn c x) (sym eq) (record { more = e.key ∷ g.more; keys = g.keys ∙ append_assoc c.keys (e.key ∷ []) g.more; round = g.round; depth = refl })

  mutual
    pub visits_go_on : {c : Course S} {e : Edge S} {d : Course S} {i : ℕ} → Visits w nested c e d i → GoesOn c d
    visits_go_on (was_found {c} at) = stays c
    visits_go_on (is_put {c = c} {e = e} {c' = c'} new one full eq len) = goes_put c c' e.key eq
    visits_go_on (is_opened {c = c} {e = e} {c' = c'} d new free inner eq len) = goes_closed c c' d e (finds_go_on inner) eq

    pub finds_go_on : {c : Course S} {es : List (Edge S)} {d : Course S} → Finds w nested c es d → GoesOn c d
    finds_go_on (no_more {c}) = stays c
    finds_go_on (and_then d i v f) = goes_through i (visits_go_on v) (finds_go_on f)

  begun_even : (c : Course S) (e : Edge S) → IsEven c → ((i : ℕ) → ¬ (slice_get c.keys i ≡ Some e.key)) → IsEven (begun c e)
  begun_even c e h new = record {
    distinct = pushed_distinct c.keys e.key h.distinct new;
    lengths = length-more c.standings _ ∙ (ap suc h.lengths ∙ sym (length-more c.keys e.key));
  }

  put_even : (c c' : Course S) (k : Key S) → IsEven c → ((i : ℕ) → ¬ (slice_get c.keys i ≡ Some k)) → c' ≡ put c k → IsEven c'
  put_even c c' k h new eq = subst (λ x. IsEven x) (sym eq) (record {
    distinct = pushed_distinct c.keys k h.distinct new;
    lengths = length-more c.standings waits ∙ (ap suc h.lengths ∙ sym (length-more c.keys k));
  })

  formed_even : (d : Course S) (i : ℕ) → IsEven d → IsEven (formed d i)
  formed_even d i h = record { distinct = h.distinct; lengths = set-length d.standings i _ ∙ h.lengths }

  closed_even : (c c' d : Course S) → IsEven d → c' ≡ closed c d → IsEven c'
  closed_even c c' d h eq = subst (λ x. IsEven x) (sym eq) (record { distinct = h.distinct; lengths = set-length d.standings (length c.keys) _ ∙ h.lengths })

  passed_even : (d : Course S) (i : ℕ) → IsEven d → IsEven (passed d i)
  passed_even d i h = record { distinct = h.distinct; lengths = h.lengths }

  begun_round_even : (c : Course S) (i : ℕ) → IsEven c → IsEven (round_begun c i)
  begun_round_even c i h = record { distinct = h.distinct; lengths = set-length c.standings i _ ∙ h.lengths }

  mutual
    pub visits_even : {c : Course S} {e : Edge S} {d : Course S} {i : ℕ} → Visits w nested c e d i → IsEven c → IsEven d
    visits_even (was_found at) h = h
    visits_even (is_put {c = c} {e = e} {c' = c'} new one full eq len) h = put_even c c' e.key h new eq
    visits_even (is_opened {c = c} {e = e} {c' = c'} d new free inner eq len) h = closed_even c c' d (finds_even inner (begun_even c e h new)) eq

    pub finds_even : {c : Course S} {es : List (Edge S)} {d : Course S} → Finds w nested c es d → IsEven c → IsEven d
    finds_even no_more h = h
    finds_even (and_then d i v f) h = finds_even f (passed_even d i (visits_even v h))

  pub works_off_even : {i : ℕ} {c d : Course S} → WorksOff w nested i c d → IsEven c → IsEven d
  works_off_even (at_end end) h = h
  works_off_even (passes_over lt other r) h = works_off_even r h
  works_off_even (in_a_round {i = i} {c = c} k d at wait f r) h = works_off_even r (formed_even d i (finds_even f (begun_round_even c i h)))

  -- ---- only one course has this start

  same_passed : (d d' : Course S) (i j : ℕ) → d ≡ d' → i ≡ j → passed d' j ≡ passed d i
  same_passed d d' i j p q = ap (λ x. passed x j) (sym p) ∙ ap (λ x. passed d x) (sym q)

  mutual
    pub one_visit : {c : Course S} {e : Edge S} {d : Course S} {i : ℕ} → Visits w nested c e d i → {d' : Course S} {j : ℕ} → IsEven c → Visits w nested c e d' j → (d ≡ d') × (i ≡ j)
    one_visit (was_found {i = i} a) h (was_found {e = e} {i = j} b) = (refl, h.distinct i j e.key a b)
    one_visit (was_found {i = i} a) h (is_put new one full eq len) = absurd (new i a)
    one_visit (was_found {i = i} a) h (is_opened d new free inner eq len) = absurd (new i a)
    one_visit (is_put new one full eq len) h (was_found {i = j} b) = absurd (new j b)
    one_visit (is_put new one full eq len) h (is_put new' one' full' eq' len') = (eq ∙ sym eq', len ∙ sym len')
    one_visit (is_put new one full eq len) h (is_opened d new' free inner eq' len') = absurd (let less = free one in omega (arith, less, full))
    one_visit (is_opened d new free inner eq len) h (was_found {i = j} b) = absurd (new j b)
    one_visit (is_opened d new free inner eq len) h (is_put new' one full eq' len') = absurd (let less = free one in omega (arith, less, full))
    one_visit (is_opened {c = c} {e = e} d new free inner eq len) h (is_opened d' new' free' inner' eq' len') = (eq ∙ (ap (λ x. closed c x) (one_finding inner (begun_even c e h new) inner') ∙ sym eq'), len ∙ sym len')

    pub one_finding : {c : Course S} {es : List (Edge S)} {d : Course S} → Finds w nested c es d → {d' : Course S} → IsEven c → Finds w nested c es d' → d ≡ d'
    one_finding no_more h no_more = refl
    one_finding (and_then {es = es} d i v f) {d'} h (and_then d1 i1 v1 f1) =
        let p = one_visit v h v1 in
        one_finding f (passed_even d i (visits_even v h)) (subst (λ x. Finds w nested x es d') (same_passed d d1 i i1 p.0 p.1) f1)

  pub one_working_off : {i : ℕ} {c d : Course S} → WorksOff w nested i c d → {d' : Course S} → IsEven c → WorksOff w nested i c d' → d ≡ d'
  one_working_off (at_end end) h (at_end end') = refl
  one_working_off (at_end end) h (passes_over lt other r) = absurd (omega (arith, end, lt))
  one_working_off (at_end end) h (in_a_round {i = i} {c = c} k d at wait f r) = absurd (let l = slice_get_within c.keys i k at in omega (arith, l, end))
  one_working_off (passes_over lt other r) h (at_end end) = absurd (omega (arith, end, lt))
  one_working_off (passes_over lt other r) h (passes_over lt' other' r') = one_working_off r h r'
  one_working_off (passes_over lt other r) h (in_a_round k d at wait f r') = absurd (other wait)
  one_working_off (in_a_round {i = i} {c = c} k d at wait f r) h (at_end end) = absurd (let l = slice_get_within c.keys i k at in omega (arith, l, end))
  one_working_off (in_a_round k d at wait f r) h (passes_over lt other r') = absurd (other wait)
  one_working_off (in_a_round {i = i} {c = c} k d at wait f r) {d'} h (in_a_round k1 d1 at1 wait1 f1 r1) =
      let same : k1 ≡ k = some_is k1 k (sym at1 ∙ at) in
      let again : Finds w nested (round_begun c i) (asked_edges w k) d1 = subst (λ x. Finds w nested (round_begun c i) (asked_edges w x) d1) same f1 in
      let begins = begun_round_even c i h in
      let one : d ≡ d1 = one_finding f begins again in
      one_working_off r (formed_even d i (finds_even f begins)) (subst (λ x. WorksOff w nested (suc i) (formed x i) d') (sym one) r1)

  -- the root determines the keys in their order, and the states of their numbers
  pub one_order : (root : Key S) (keys keys' : List (Key S)) (standings standings' : List Standing) → FindsAll w nested root keys standings → FindsAll w nested root keys' standings'
      → (keys ≡ keys') × (standings ≡ standings')
  one_order root keys keys' standings standings' f g =
      let same = one_working_off f.1 (root_even root) g.1 in
      (sym f.2 ∙ (ap (λ x. x.keys) same ∙ g.2), sym f.3 ∙ (ap (λ x. x.standings) same ∙ g.3))

-- ---- how many have their form

count_one : {C : Type 0} (location : Text) (base : Option Text) (start : ℕ) (round : Option ℕ) (order : ℕ) (settled : Bool) (annotations : Option Value) (plan : Option (NodePlan C)) (rest : List Standing) (ns : List (NodeEntry C))
    → formed_count rest ≡ filled_count ns
    → (let n : NodeEntry C = record { location = location; base = base; start = start; round = round; order = order; settled = settled; annotations = annotations; plan = plan } in formed_count (standing_of n ∷ rest) ≡ filled_count (n ∷ ns))
count_one l b st None o s a None rest ns e = let z : filled_count ns ≡ 0 + filled_count ns = omega arith in e ∙ z
count_one l b st (Some r) o s a None rest ns e = let z : filled_count ns ≡ 0 + filled_count ns = omega arith in e ∙ z
count_one l b st r o s a (Some p) rest ns e = let z : suc (filled_count ns) ≡ 1 + filled_count ns = omega arith in ap suc e ∙ z

pub formed_counts : {C : Type 0} (ns : List (NodeEntry C)) → formed_count (map standing_of ns) ≡ filled_count ns
formed_counts [] = refl
formed_counts (n ∷ ns) = count_one n.location n.base n.start n.round n.order n.settled n.annotations n.plan (map standing_of ns) ns (formed_counts ns)
