-- The number of accepting verdicts: 0 if all refuse, at least 1 if one accepts, and exactly 1 if
-- only one does.
use Rattle.std.proofs.Common.{◌≡◌, ◌∙◌, ℕ, zero, suc, ◌+◌, ◌<◌, ◌++◌, ◌∷◌, [], List, Bool, true, false, ap, arith, inl, inr, map, refl, slice_index_or}
use Rattle.std.specs.Prelude.{Contains}
use Rattle.std.proofs.lemmas.List.Elements.{All-cons, All-head, All-nil, All-tail, Contains-append_cases, Contains-append_right}
use Rattle.theory_definitions.specs.Keywords.{Question}
use Rattle.keyword_authoring.specs.Tallies.{counted, yes_count}
use Rattle.schema_applicators.specs.OneOf.{AllRefuse, OneAcceptsAlone}

abbrev pub trues : List Bool → ℕ
trues [] = 0
trues (v ∷ vs) = counted v (trues vs)

pub yes_trues : (accepts : Question → Bool) (qs : List Question) → yes_count accepts qs ≡ trues (map accepts qs)
yes_trues accepts [] = refl
yes_trues accepts (q ∷ qs) = ap (counted (accepts q)) (yes_trues accepts qs)

-- ---- none

pub none_counted : (vs : List Bool) → AllRefuse vs → trues vs ≡ 0
none_counted [] h = refl
none_counted (v ∷ vs) h = ap (λ b. counted b (trues vs)) (All-head (λ v. v ≡ false) v vs h) ∙ none_counted vs (All-tail (λ v. v ≡ false) v vs h)

pub counted_none : (vs : List Bool) → trues vs ≡ 0 → AllRefuse vs
counted_none [] h = All-nil _
counted_none (true ∷ vs) h = absurd (omega arith)
counted_none (false ∷ vs) h = All-cons (λ v. v ≡ false) false vs refl (counted_none vs h)

-- ---- at least one

pub some_counted : (vs : List Bool) → Contains vs true → 0 < trues vs
some_counted [] h = absurd (omega (arith, h.1))
some_counted (true ∷ vs) h = omega arith
some_counted (false ∷ vs) h = elim (Contains-append_cases (false ∷ []) vs true h) [
  | inl first ↦ absurd (not_first first)
  | inr later ↦ some_counted vs later
]
  where
    not_first : Contains (false ∷ []) true → ⊥
    not_first h = wrong h.0 h.1 h.2
      where
        wrong : (k : ℕ) → k < 1 → slice_index_or (false ∷ []) k true ≡ true → ⊥
        wrong zero l e = cc
        wrong (suc k) l e = omega arith

pub counted_some : (vs : List Bool) → 0 < trues vs → Contains vs true
counted_some [] h = absurd (omega arith)
counted_some (true ∷ vs) h = (zero, omega arith, refl)
counted_some (false ∷ vs) h = Contains-append_right (false ∷ []) vs true (counted_some vs h)

-- ---- exactly one

trues-append : (xs ys : List Bool) → trues (xs ++ ys) ≡ trues xs + trues ys
trues-append [] ys = omega arith
trues-append (true ∷ xs) ys = let later = trues-append xs ys in omega arith
trues-append (false ∷ xs) ys = trues-append xs ys

pub alone_counted : (vs : List Bool) → OneAcceptsAlone vs → trues vs ≡ 1
alone_counted vs h =
    let before = none_counted h.before h.none_before in
    let after = none_counted h.after h.none_after in
    let parts = trues-append h.before (true ∷ h.after) in
    let whole = ap trues h.one in
    omega arith

pub counted_alone : (vs : List Bool) → trues vs ≡ 1 → OneAcceptsAlone vs
counted_alone [] h = absurd (omega arith)
counted_alone (true ∷ vs) h = record { before = []; after = vs; one = refl; none_before = All-nil _; none_after = counted_none vs (omega arith) }
counted_alone (false ∷ vs) h = let rest : OneAcceptsAlone vs = counted_alone vs h in record {
  before = false ∷ rest.before;
  after = rest.after;
  one = ap (λ l. false ∷ l) rest.one;
  none_before = All-cons (λ v. v ≡ false) false rest.before refl rest.none_before;
  none_after = rest.none_after;
}
