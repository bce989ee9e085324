-- If the runs of a call branch on k pairs, its cover has at most 2 ^ k members.
use Rattle.std.proofs.Common.{◌≡◌, ℕ, zero, suc, List, [], ◌∷◌, ◌++◌, ◌+◌, ◌≤◌, ◌<◌, Bool, true, false, Some, None, length, refl, ap, ◌∙◌, arith, cond}
use Rattle.std.specs.Prelude.{Contains, Option, find, option_map, ◌^◌}
use Rattle.std.proofs.Math.Nat.{pow-succ'}
use Rattle.std.proofs.lemmas.List.{length-append}
use Rattle.theory_definitions.specs.Matching.{Assumptions, Pair, assumed, same_pair}
use Rattle.theory_definitions.specs.Runs.{Met}
use Rattle.theory_definitions.specs.Cover.{Call, Cover, Decides, IsRun, Sense, assuming, branch_at, first_run, further, split, whole}
use Rattle.theory_meaning.specs.Members.{BranchesAmong}
use Rattle.theory_meaning.proofs.CoversApart.{same_itself, unassumed}

-- 0 if something is assumed, and 1 if not.
abbrev one_if_none : Option Bool → ℕ
one_if_none None = 1
one_if_none (Some b) = 0

-- The number of these pairs that are not yet assumed.
abbrev left_of : Assumptions → List Pair → ℕ
left_of as' [] = 0
left_of as' (a ∷ pairs) = one_if_none (assumed as' a) + left_of as' pairs

one_fewer : (as' : Assumptions) (m : Met) (b : Bool) (a : Pair) → one_if_none (assumed (assuming m b as') a) ≤ one_if_none (assumed as' a)
one_fewer as' m b a = go (same_pair a m.pair)
  where
    go : (t : Bool) → one_if_none (option_map (λ x. x.outcome) (cond t (Some (record { pair = m.pair; outcome = b })) (find (λ x. same_pair a x.pair) as'))) ≤ one_if_none (assumed as' a)
    go true = omega arith
    go false = omega arith

no_more : (as' : Assumptions) (m : Met) (b : Bool) (pairs : List Pair) → left_of (assuming m b as') pairs ≤ left_of as' pairs
no_more as' m b [] = omega arith
no_more as' m b (a ∷ pairs) = omega (arith, one_fewer as' m b a, no_more as' m b pairs)

own_gone : (as' : Assumptions) (m : Met) (b : Bool) (a : Pair) → a ≡ m.pair → assumed as' m.pair ≡ None → (one_if_none (assumed (assuming m b as') a) ≡ 0) × (one_if_none (assumed as' a) ≡ 1)
own_gone as' m b a same new = (
  ap (λ t. one_if_none (option_map (λ x. x.outcome) (cond t (Some (record { pair = m.pair; outcome = b })) (find (λ x. same_pair a x.pair) as')))) (ap (λ z. same_pair z m.pair) same ∙ same_itself m.pair),
  ap one_if_none (ap (assumed as') same ∙ new),
)

one_gone : (as' : Assumptions) (m : Met) (b : Bool) (pairs : List Pair) → Contains pairs m.pair → assumed as' m.pair ≡ None → left_of (assuming m b as') pairs < left_of as' pairs
one_gone as' m b [] (i, is, at_i) new = absurd (omega arith)
one_gone as' m b (a ∷ pairs) (zero, is, at_i) new = let (gone, was) = own_gone as' m b a at_i new in omega (arith, gone, was, no_more as' m b pairs)
one_gone as' m b (a ∷ pairs) (suc i, is, at_i) new = omega (arith, one_fewer as' m b a, one_gone as' m b pairs (i, omega arith, at_i) new)

module _ (v : Sense) (call : Call) (pairs : List Pair) (among : BranchesAmong v call pairs) where
  abbrev Grown : ℕ → Assumptions → Type 0
  Grown n as' = (ms : List Assumptions) × Cover v call as' ms × (length ms ≤ 2 ^ n)

  some_power : (n : ℕ) → 1 ≤ 2 ^ n
  some_power zero = omega arith
  some_power (suc n) = omega (arith, pow-succ' 2 n, some_power n)

  grown_among : (n : ℕ) (as' : Assumptions) → IsRun v call as' → left_of as' pairs ≤ n → Grown n as'
  grown_among zero as' run few = go (branch_at v call as') refl
    where
      go : (o : Option Met) → branch_at v call as' ≡ o → Grown zero as'
      go None e = (as' ∷ [], whole e, omega arith)
      go (Some m) e = let gone = one_gone as' m true pairs (among as' m run e) (unassumed v call as' m e) in absurd (omega arith)
  grown_among (suc n) as' run few = go (branch_at v call as') refl (λ as'. grown_among n as')
    where
      go : (o : Option Met) → branch_at v call as' ≡ o → ((as' : Assumptions) → IsRun v call as' → left_of as' pairs ≤ n → Grown n as') → Grown (suc n) as'
      go None e less = (as' ∷ [], whole e, some_power (suc n))
      go (Some m) e less =
          let in_pairs = among as' m run e in
          let new = unassumed v call as' m e in
          let gone_no = one_gone as' m false pairs in_pairs new in
          let gone_yes = one_gone as' m true pairs in_pairs new in
          let (ns, s, few_no) = less (assuming m false as') (further m false run e) (omega arith) in
          let (ys, t, few_yes) = less (assuming m true as') (further m true run e) (omega arith) in
          (ns ++ ys, split m e s t, omega (arith, length-append ns ys, pow-succ' 2 n))

  most_left : (ps : List Pair) → left_of [] ps ≤ length ps
  most_left [] = omega arith
  most_left (a ∷ ps) = omega (arith, most_left ps)

  pub pairs_decide : (limit : ℕ) → 2 ^ suc (length pairs) ≤ limit + 1 → Decides v limit call
  pairs_decide limit enough =
      let (ms, cover, few) = grown_among (length pairs) [] first_run (most_left pairs) in
      (ms, cover, omega (arith, pow-succ' 2 (length pairs)))
