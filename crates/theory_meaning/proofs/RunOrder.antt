-- A call makes its runs one after another: each run that it makes is one of its runs, and if it
-- decides, it makes each of them.
use Rattle.std.proofs.Common.{◌≡◌, ◌≤◌, ◌<◌, ◌+◌, ℕ, zero, suc, List, [], ◌∷◌, ◌++◌, ◌⊎◌, inl, inr, length, refl, ◌∙◌, ap, subst, arith, true, false}
use Rattle.std.specs.Prelude.{All, Contains, None, Option, Some}
use Rattle.std.proofs.lemmas.List.{length-append}
use Rattle.std.proofs.lemmas.List.Elements.{All-cons, All-head, All-nil, All-tail, Contains-append_cases}
use Rattle.theory_definitions.specs.Matching.{Assumptions}
use Rattle.theory_definitions.specs.Reports.{Error}
use Rattle.theory_definitions.specs.Runs.{Met}
use Rattle.theory_definitions.specs.Cover.{Call, Cover, Decides, IsRun, Sense, assuming, branch_at, first_run, further, split, whole}
use Rattle.theory_meaning.specs.Headline.{IsFailure}
use Rattle.theory_meaning.specs.RunOrder.{IsMade, grown_from, once_run, waiting_after}
use Rattle.theory_meaning.proofs.CoverCounts.{Contains-cases, each_run, runs_count, runs_of}
use Rattle.theory_meaning.proofs.CoversApart.{only_one}

module _ (v : Sense) (call : Call) where
  -- ---- one more run

  pub member_next : (n : ℕ) (as' : Assumptions) (rest : List Assumptions) → waiting_after v call n ≡ as' ∷ rest → branch_at v call as' ≡ None → waiting_after v call (suc n) ≡ rest
  member_next n as' rest waits none = ap (once_run v call) waits ∙ ap (λ o. grown_from as' o rest) none

  pub branch_next : (n : ℕ) (as' : Assumptions) (rest : List Assumptions) (m : Met) → waiting_after v call n ≡ as' ∷ rest → branch_at v call as' ≡ Some m
      → waiting_after v call (suc n) ≡ assuming m false as' ∷ (assuming m true as' ∷ rest)
  branch_next n as' rest m waits some = ap (once_run v call) waits ∙ ap (λ o. grown_from as' o rest) some

  -- ---- each list that waits is that of a run

  each_waits : (n : ℕ) → All (IsRun v call) (waiting_after v call n)
  each_waits zero = All-cons (IsRun v call) [] [] first_run (All-nil (IsRun v call))
  each_waits (suc n) = go (waiting_after v call n) (each_waits n)
    where
      grown : (as' : Assumptions) (rest : List Assumptions) (o : Option Met) → branch_at v call as' ≡ o → IsRun v call as' → All (IsRun v call) rest → All (IsRun v call) (grown_from as' o rest)
      grown as' rest None e run all = all
      grown as' rest (Some m) e run all =
          All-cons (IsRun v call) (assuming m false as') (assuming m true as' ∷ rest) (further m false run e) (All-cons (IsRun v call) (assuming m true as') rest (further m true run e) all)

      go : (lists : List Assumptions) → All (IsRun v call) lists → All (IsRun v call) (once_run v call lists)
      go [] all = All-nil (IsRun v call)
      go (as' ∷ rest) all = grown as' rest (branch_at v call as') refl (All-head (IsRun v call) as' rest all) (All-tail (IsRun v call) as' rest all)

  pub made_runs : (limit : ℕ) (as' : Assumptions) → IsMade v limit call as' → IsRun v call as'
  made_runs limit as' (n, few, rest, waits) = All-head (IsRun v call) as' rest (subst (All (IsRun v call)) waits (each_waits n))

  -- ---- the runs of a part of a cover are made without a break

  past_part : {as' : Assumptions} {ms : List Assumptions} (t : Cover v call as' ms) (n : ℕ) (rest : List Assumptions) → waiting_after v call n ≡ as' ∷ rest
      → waiting_after v call (n + length (runs_of v call t)) ≡ rest
  past_part {as'} (whole e) n rest waits = let same : suc n ≡ n + 1 = omega arith in subst (λ k. waiting_after v call k ≡ rest) same (member_next n as' rest waits e)
  past_part {as'} (split m e s t) n rest waits =
      let for_no : waiting_after v call (suc n + length (runs_of v call s)) ≡ assuming m true as' ∷ rest = past_part s (suc n) (assuming m true as' ∷ rest) (branch_next n as' rest m waits e) in
      let same : (suc n + length (runs_of v call s)) + length (runs_of v call t) ≡ n + suc (length (runs_of v call s ++ runs_of v call t)) = omega (arith, length-append (runs_of v call s) (runs_of v call t)) in
      subst (λ k. waiting_after v call k ≡ rest) same (past_part t (suc n + length (runs_of v call s)) rest for_no)

  longer : (less more : ℕ) (as' : Assumptions) → less ≤ more → IsMade v less call as' → IsMade v more call as'
  longer less more as' below (n, few, rest, waits) = (n, omega arith, rest, waits)

  made_in : {as' : Assumptions} {ms : List Assumptions} (t : Cover v call as' ms) (n : ℕ) (rest : List Assumptions) → waiting_after v call n ≡ as' ∷ rest
      → (x : Assumptions) → Contains (runs_of v call t) x → IsMade v (n + length (runs_of v call t)) call x
  made_in {as'} (whole e) n rest waits x in_it = let few : n < n + 1 = omega arith in (n, few, rest, waits ∙ ap (λ z. z ∷ rest) (only_one as' x in_it))
  made_in {as'} (split m e s t) n rest waits x in_it =
      let for_no = branch_next n as' rest m waits e in
      go (Contains-cases as' (runs_of v call s ++ runs_of v call t) x in_it) (made_in s (suc n) (assuming m true as' ∷ rest) for_no x)
      (made_in t (suc n + length (runs_of v call s)) rest (past_part s (suc n) (assuming m true as' ∷ rest) for_no) x)
    where
      count : ℕ
      count = n + suc (length (runs_of v call s ++ runs_of v call t))

      go : (as' ≡ x) ⊎ Contains (runs_of v call s ++ runs_of v call t) x → (Contains (runs_of v call s) x → IsMade v (suc n + length (runs_of v call s)) call x)
          → (Contains (runs_of v call t) x → IsMade v ((suc n + length (runs_of v call s)) + length (runs_of v call t)) call x) → IsMade v count call x
      go (inl same) f g = let few : n < n + suc (length (runs_of v call s ++ runs_of v call t)) = omega arith in (n, few, rest, waits ∙ ap (λ z. z ∷ rest) same)
      go (inr later) f g =
          let one : suc n + length (runs_of v call s) ≤ n + suc (length (runs_of v call s ++ runs_of v call t)) = omega (arith, length-append (runs_of v call s) (runs_of v call t)) in
          let two : (suc n + length (runs_of v call s)) + length (runs_of v call t) ≤ n + suc (length (runs_of v call s ++ runs_of v call t)) = omega (arith, length-append (runs_of v call s) (runs_of v call t)) in
          elim (Contains-append_cases (runs_of v call s) (runs_of v call t) x later) [ inl k ↦ longer _ _ x one (f k) | inr k ↦ longer _ _ x two (g k) ]

  pub all_made : (limit : ℕ) (as' : Assumptions) → Decides v limit call → IsRun v call as' → IsMade v limit call as'
  all_made limit as' (ms, cover, few) run = longer _ limit as' (omega (arith, runs_count v call cover, few)) (made_in cover 0 [] refl as' (each_run v call cover run))

  -- If a call decides within a limit, its failure is that of a call that makes more runs.
  pub failure_within : (limit larger : ℕ) (e : Error) → Decides v limit call → IsFailure v larger call e → IsFailure v limit call e
  failure_within limit larger e decides f = record {
    first = f.first;
    is_first = f.is_first;
    run = f.run;
    is_made = all_made limit f.run decides (made_runs larger f.run f.is_made);
    met = f.met;
    meets = f.meets;
    same = f.same;
    text = f.text;
    schema = f.schema;
    located = f.located;
    nowhere = f.nowhere;
    named = f.named;
  }
