-- Laws of deciding: whether a call decides is itself decidable, and depends on its limit, its first
-- run and its cover. To find out, the cover is grown as far as the limit allows; by then it is
-- whole, or some of it still has to grow.
use Rattle.std.proofs.Common.{arith, ap, inl, inr, refl, subst, sym, zero, suc, ℕ, ◌*◌, ◌+◌, ◌<◌, ◌∙◌, ◌⊎◌}
use Rattle.std.specs.Prelude.{List, None, Option, Some, [], false, length, true, ◌++◌, ◌↔◌, ◌∷◌, ◌≡◌, ◌≤◌}
use Rattle.std.proofs.lemmas.Bool.{cases_lt}
use Rattle.std.proofs.lemmas.List.{length-append}
use Rattle.theory_definitions.specs.Reports.{Error}
use Rattle.theory_definitions.specs.Matching.{Assumptions, all_match}
use Rattle.theory_definitions.specs.Runs.{Met}
use Rattle.theory_definitions.specs.Cover.{Call, Cover, Decides, Sense, assuming, branch_at, split, validate, whole}
use Rattle.theory_meaning.specs.Shared.{EachAccepts}
use Rattle.theory_meaning.specs.Headline as h
use Rattle.theory_meaning.specs.Members.{Follows, Partly, splits, waits}

module _ (v : Sense) (call : Call) where
  -- ---- a cover has no fewer members than a part of it has lists

  no_less : {as' : Assumptions} {n : ℕ} {ms : List Assumptions} → Partly v call as' n → Cover v call as' ms → n ≤ length ms
  no_less waits (whole e) = omega arith
  no_less {ms = ms} waits (split {no = ns} {yes = ys} m e s t) =
      let one : 1 ≤ length ns = no_less waits s in
      omega (arith, length-append ns ys)
  no_less (splits m f s t) (whole e) = absurd (cc (sym e ∙ f))
  no_less {as'} (splits {a = a} {b = b} m f s t) (split {no = ns} {yes = ys} m' e s' t') =
      let same : m' ≡ m = ap (λ o. elim o [ Some x ↦ x | None ↦ m ]) (sym e ∙ f) in
      let one : a ≤ length ns = no_less s (subst (λ x. Cover v call (assuming x false as') ns) same s') in
      let two : b ≤ length ys = no_less t (subst (λ x. Cover v call (assuming x true as') ys) same t') in
      omega (arith, length-append ns ys)

  -- A call does not decide if a part of its cover takes more runs than the limit.
  pub undecided_past : (limit n : ℕ) → Partly v call [] n → limit + 1 < 2 * n → ¬ (Decides v limit call)
  undecided_past limit n part many (ms, cover, few) = let least : n ≤ length ms = no_less part cover in absurd (omega arith)

  -- ---- a cover is grown up to a number of members

  -- A whole cover of at most n members, or a part with more than n lists.
  abbrev Within : ℕ → Assumptions → Type 0
  Within n as' = ((ms : List Assumptions) × Cover v call as' ms × (length ms ≤ n)) ⊎ ((k : ℕ) × Partly v call as' k × (n < k))

  a_part : {as' : Assumptions} {ms : List Assumptions} → Cover v call as' ms → Partly v call as' (length ms)
  a_part (whole e) = waits
  a_part {as'} (split {no = ns} {yes = ys} m e s t) =
      subst (Partly v call as') (sym (length-append ns ys)) (splits m e (a_part s) (a_part t))

  some_member : {as' : Assumptions} {ms : List Assumptions} → Cover v call as' ms → 0 < length ms
  some_member (whole e) = omega arith
  some_member (split {no = ns} {yes = ys} m e s t) = omega (arith, length-append ns ys, some_member s)

  -- The cover that grows from the two sides of a branch.
  both : (n : ℕ) (as' : Assumptions) (m : Met) → branch_at v call as' ≡ Some m
      → Within n (assuming m false as') → Within n (assuming m true as') → Within (suc n) as'
  both n as' m e (inr (k, part, many)) side = inr (k + 1, splits m e part waits, omega arith)
  both n as' m e (inl (ns, s, few)) (inr (k, part, many)) = inr (length ns + k, splits m e (a_part s) part, omega (arith, some_member s))
  both n as' m e (inl (ns, s, few)) (inl (ys, t, few')) = go (cases_lt (suc n) (length ns + length ys))
    where
      go : (suc n < length ns + length ys) ⊎ (length ns + length ys ≤ suc n) → Within (suc n) as'
      go (inl more) = inr (length ns + length ys, splits m e (a_part s) (a_part t), more)
      go (inr few) = inl (ns ++ ys, split m e s t, omega (arith, length-append ns ys))

  grown : (n : ℕ) (as' : Assumptions) → Within n as'
  grown zero as' = inr (1, waits, omega arith)
  grown (suc n) as' = go (branch_at v call as') refl (λ as'. grown n as')
    where
      go : (o : Option Met) → branch_at v call as' ≡ o → ((as' : Assumptions) → Within n as') → Within (suc n) as'
      go None e less = inl (as' ∷ [], whole e, omega arith)
      go (Some m) e less = both n as' m e (less (assuming m false as')) (less (assuming m true as'))

-- Half of a number, rounded down.
half : (r : ℕ) → (n : ℕ) × (2 * n ≤ r) × (r < 2 * n + 2)
half zero = (0, omega arith, omega arith)
half (suc zero) = (0, omega arith, omega arith)
half (suc (suc r)) = let (n, no_more, no_less) = half r in (suc n, omega arith, omega arith)

-- Whether a call decides within a limit is itself decidable.
pub decides_or_not : (v : Sense) (limit : ℕ) (call : Call) → Decides v limit call ⊎ ¬ (Decides v limit call)
decides_or_not v limit call = let (n, at_most, at_least) = half (limit + 1) in go n at_most at_least (grown v call n [])
  where
    go : (n : ℕ) → 2 * n ≤ limit + 1 → limit + 1 < 2 * n + 2 → Within v call n [] → Decides v limit call ⊎ ¬ (Decides v limit call)
    go n at_most at_least (inl (ms, cover, few)) = inl (ms, cover, omega arith)
    go n at_most at_least (inr (k, part, many)) = inr (undecided_past v call limit k part (omega arith))

-- A larger limit decides what a smaller one decides.
pub larger_decides : (v : Sense) (limit larger : ℕ) (call : Call) → limit ≤ larger → Decides v limit call → Decides v larger call
larger_decides v limit larger call less (ms, cover, few) = (ms, cover, omega arith)

-- If the first run branches on no match, that run decides under every limit that allows a run.
pub finished_decides : (v : Sense) (limit : ℕ) (call : Call) → branch_at v call [] ≡ None → 1 ≤ limit → Decides v limit call
finished_decides v limit call none some = ([] ∷ [], whole none, omega arith)

-- ---- if `validate` decides, it answers none if and only if every completion accepts

pub none_where_accepted : (v : Sense) → Follows v → (limit : ℕ) (o : Option Error) → h.FirstSays v limit o → Decides v limit validate → (o ≡ None) ↔ EachAccepts v
none_where_accepted v follows limit o says decides =
    let (shared, is_first, is) = says.0 decides in
    go shared o is_first is
  where
    no_first : {es : List Error} {first : Option Error} → h.FirstShared v es first → es ≡ [] → first ≡ None
    no_first h.none e = refl
    no_first (h.here s) e = absurd (cc e)
    no_first (h.later t more) e = absurd (cc e)

    go : (shared o : Option Error) → h.FirstShared v (v.says all_match).errors shared → h.IsFirst v limit shared o → (o ≡ None) ↔ EachAccepts v
    go None None k is = (λ e. is, λ each. refl)
    go None (Some e) k is =
        let ((c, nay), fails) = is in
        (λ e'. absurd (cc e'), λ each. absurd (cc (each c, nay)))
    go (Some f) o k is = (λ e. absurd (cc (is, e)), λ each. absurd (cc (no_first k ((follows.agrees all_match).0 (each all_match)))))
