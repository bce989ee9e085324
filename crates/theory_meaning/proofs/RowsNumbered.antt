-- Two numbers for a schema whose `not` refers to the root.
use Rattle.std.proofs.Common.{ap, arith, subst, sym, ◌∙◌}
use Rattle.std.specs.Prelude.{[], Contains, Option, Some, codes, false, length, refl, suc, true, zero, ℕ, ◌<◌, ◌≡◌, ◌∷◌}
use Rattle.std.specs.Str.Lossy.{utf8_lossy, utf8_valid_len}
use Rattle.std.specs.Str.{chars, is_utf8}
use lib.Utf8.{encode}
use Rattle.percent_encoding.specs.Percent.{percent_decode}
use Rattle.theory_definitions.specs.Instance.{Text, to_member}
use Rattle.theory_definitions.specs.Making.{compile}
use Rattle.theory_definitions.specs.Plan.{Key, child, plan}
use Rattle.theory_definitions.specs.Guarded.{NodeEdge, node_child, node_edges}
use Rattle.theory_meaning.specs.Numbered.{IsNumber, Numbers, Ranked, SameEdge, SamePlan, StandsFor}
use Rattle.theory_meaning.specs.RowsWorked.{worked_parts}
use Rattle.theory_meaning.specs.Rows.{TurningIsNumbered, turning_child, turning_keys, turning_nodes, turning_root, turning_schema}

abbrev key_or : {S : Type 0} → Key S → Option (Option (Key S)) → Key S
key_or k (Some (Some l)) = l
key_or k _ = k

-- A number has one key.
one_key : (keys : Numbers Text) (i : ℕ) (k l : Key Text) → IsNumber keys i k → IsNumber keys i l → k ≡ l
one_key keys i k l a b = let e : ◌≡◌ {A = Option (Option (Key Text))} (Some (Some k)) (Some (Some l)) = sym a ∙ b in ap (key_or k) e

first_entries : SamePlan (worked_parts [] turning_schema) turning_keys turning_nodes turning_root (turning_nodes.entries 0) (plan (worked_parts [] turning_schema) turning_root)
unfolding percent_decode utf8_lossy utf8_valid_len is_utf8 chars encode
first_entries = (record { name = refl; priority = refl; is_leaf = refl; form = (refl, edge) }, tt)
  where
    edge : (i : ℕ) → SameEdge (worked_parts [] turning_schema) turning_keys turning_nodes (node_child (Some (record { node = 1; path = codes "/not"; guarded = false }) ∷ []) i) (child (worked_parts [] turning_schema) turning_root (codes "not") (compile (to_member (codes "not") ∷ []) ∷ []) i)
    edge zero = (refl, refl)
    edge (suc i) = tt

second_entries : SamePlan (worked_parts [] turning_schema) turning_keys turning_nodes turning_child (turning_nodes.entries 1) (plan (worked_parts [] turning_schema) turning_child)
unfolding percent_decode utf8_lossy utf8_valid_len is_utf8 chars encode
second_entries = (record { name = refl; priority = refl; is_leaf = refl; form = (refl, refl) }, tt)

-- A fact about the numbers holds if it holds of both.
number_cases : (P : ℕ → Key Text → Type 0) → P 0 turning_root → P 1 turning_child → (i : ℕ) (k : Key Text) → IsNumber turning_keys i k → P i k
number_cases P a b zero k e = subst (P 0) (one_key turning_keys 0 turning_root k refl e) a
number_cases P a b (suc zero) k e = subst (P 1) (one_key turning_keys 1 turning_child k refl e) b
number_cases P a b (suc (suc i)) k e = absurd (let f : ⊥ = cc in f)

all_stand : (i : ℕ) (k : Key Text) → IsNumber turning_keys i k → StandsFor (worked_parts [] turning_schema) turning_keys turning_nodes i k
all_stand = number_cases (StandsFor (worked_parts [] turning_schema) turning_keys turning_nodes)
    (record { entries = first_entries; location = refl; absolute = λ l. refl; annotations = refl })
    (record { entries = second_entries; location = refl; absolute = λ l. refl; annotations = refl })

ranked : Ranked turning_nodes 2
ranked zero l e (zero, is, at_e) = subst (λ x. (x.node < 2) × (x.guarded ≡ false → turning_nodes.rank x.node < turning_nodes.rank 0)) at_e (omega arith, λ g. omega arith)
ranked zero l e (suc i, is, at_e) = absurd (omega arith)
ranked (suc j) l e (zero, is, at_e) = subst (λ x. (x.node < 2) × (x.guarded ≡ false → turning_nodes.rank x.node < turning_nodes.rank (suc j))) at_e (omega arith, λ g. absurd (cc g))
ranked (suc j) l e (suc i, is, at_e) = absurd (omega arith)

differ : turning_root ≡ turning_child → ⊥
differ e = let h : length turning_root.location ≡ length turning_child.location = ap (λ k. length k.location) e in omega arith

-- The edges of a number that lead to the same number are guarded alike, because each number has one
-- edge.
abbrev Guards : ℕ → Key Text → Type 0
Guards i k = (a b : NodeEdge) → Contains (node_edges (turning_nodes.entries i)) a → Contains (node_edges (turning_nodes.entries i)) b → a.node ≡ b.node → a.guarded ≡ b.guarded

only : (x a : NodeEdge) → Contains (x ∷ []) a → x ≡ a
only x a (zero, is, at_i) = at_i
only x a (suc i, is, at_i) = absurd (omega arith)

guards : (i : ℕ) (k : Key Text) → IsNumber turning_keys i k → Guards i k
guards = number_cases Guards
    (λ a b in_a in_b one. let x : NodeEdge = record { node = 1; path = codes "/not"; guarded = false } in ap (λ e. e.guarded) (sym (only x a in_a) ∙ only x b in_b))
    (λ a b in_a in_b one. let x : NodeEdge = record { node = 0; path = codes "/$ref"; guarded = true } in ap (λ e. e.guarded) (sym (only x a in_a) ∙ only x b in_b))

pub turning_is_numbered : TurningIsNumbered
turning_is_numbered = (record { stands = all_stand; once = once; guards = guards }, ranked)
  where
    once : (i j : ℕ) (k : Key Text) → IsNumber turning_keys i k → IsNumber turning_keys j k → i ≡ j
    once zero zero k a b = refl
    once (suc zero) (suc zero) k a b = refl
    once zero (suc zero) k a b = absurd (differ (one_key turning_keys 0 turning_root k refl a ∙ sym (one_key turning_keys 1 turning_child k refl b)))
    once (suc zero) zero k a b = absurd (differ (one_key turning_keys 0 turning_root k refl b ∙ sym (one_key turning_keys 1 turning_child k refl a)))
    once (suc (suc i)) j k a b = absurd (let f : ⊥ = cc in f)
    once zero (suc (suc j)) k a b = absurd (let f : ⊥ = cc in f)
    once (suc zero) (suc (suc j)) k a b = absurd (let f : ⊥ = cc in f)
