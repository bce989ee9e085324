-- The worked rows, by computation.
use Rattle.std.proofs.Common.{arith, subst}
use Rattle.std.specs.Prelude.{[], Bool, ℕ, false, refl, suc, true, zero, Some, None, codes, map, ◌&&◌, ◌+◌, ◌-◌, ◌≡◌, ◌≤◌, ◌∷◌, ◌||◌, not}
use Rattle.std.specs.Fmt.{digits}
use Rattle.std.specs.Str.Lossy.{utf8_lossy, utf8_valid_len}
use Rattle.std.specs.Str.{chars, is_utf8}
use lib.Utf8.{encode}
use Rattle.percent_encoding.specs.Percent.{percent_decode}
use Rattle.serde_json.proofs.OnLiterals.{serde_json_on_literals}
use Rattle.theory_definitions.specs.Instance.{Text}
use Rattle.theory_definitions.specs.Instance.{a_value}
use Rattle.theory_definitions.specs.Meaning.{at, both, fault_error, subject, kept}
use Rattle.theory_definitions.specs.Guarded.{guarded_sense}
use Rattle.serde_json.specs.Data.{number, unsigned}
use Rattle.theory_definitions.specs.Reports.{Outcome, accepted, spans_nothing}
use Rattle.theory_definitions.specs.Drafts.{draft_2020_12}
use Rattle.theory_definitions.specs.Matching.{Completion, all_match, completed}
use Rattle.theory_definitions.specs.Keywords.{Mode, for_units, for_verdict}
use Rattle.theory_definitions.specs.Runs.{Met, Site}
use Rattle.theory_definitions.specs.Cover.{evaluate, is_valid, iter_errors, split, validate, whole}
use Rattle.theory_meaning.specs.Shared.{EachAccepts, keep, leave, none}
use Rattle.theory_meaning.specs.RowsWorked.{worked_parts, entrance_of, is_any_of, own_faults, root_of, tiny_matcher, words}
use Rattle.theory_meaning.specs.Rows

-- This many steps deeper than n.
abbrev deeper : ℕ → ℕ → ℕ
deeper zero n = n
deeper (suc k) n = suc (deeper k n)

deeper-is : (k n : ℕ) → deeper k n ≡ k + n
deeper-is zero n = omega arith
deeper-is (suc k) n = let h : deeper k n ≡ k + n = deeper-is k n in omega arith

-- If a property holds of k and of all numbers deeper than k, it holds of all from k on.
at_least : (k : ℕ) (P : ℕ → Type 0) → P (deeper k 0) → ((m : ℕ) → P (deeper k (suc m))) → (n : ℕ) → k ≤ n → P n
at_least k P here deep n h = subst P (let e : deeper k (n - k) ≡ k + (n - k) = deeper-is k (n - k) in omega arith) (each (n - k))
  where
    each : (m : ℕ) → P (deeper k m)
    each zero = here
    each (suc m) = deep m

pub roots_are_roots : Rows.RootsAreRoots
roots_are_roots unfinished_ones schema = record { draft = draft_2020_12; entrance = entrance_of schema; drafted = refl; entered = refl; valued = refl; is_key = refl }

pub text_is_string : Rows.TextIsString
text_is_string zero h c = refl
text_is_string (suc n) h c = refl

pub number_is_no_string : Rows.NumberIsNoString
unfolding digits
number_is_no_string zero h c = refl
number_is_no_string (suc n) h c = refl

-- ---- unfinished matches

abbrev site : Text → Mode → Site
site path mode = record { schema_path = path; located = elim mode [ for_verdict ↦ None | _ ↦ Some (path, []) ]; pattern = Some Rows.pattern }

-- The match is met at this path, in the mode in which its keyword runs.
abbrev met_at : Text → Mode → Met
met_at path mode = record { pair = record { pattern = Rows.pattern; subject = codes "abc" }; site = site path mode }

pub not_is_taken_apart : Rows.NotIsTakenApart
not_is_taken_apart is_valid zero = split (met_at (codes "/not/pattern") for_verdict) refl (whole refl) (whole refl)
not_is_taken_apart is_valid (suc n) = split (met_at (codes "/not/pattern") for_verdict) refl (whole refl) (whole refl)
not_is_taken_apart validate zero = split (met_at (codes "/not/pattern") for_verdict) refl (whole refl) (whole refl)
not_is_taken_apart validate (suc n) = split (met_at (codes "/not/pattern") for_verdict) refl (whole refl) (whole refl)
not_is_taken_apart iter_errors zero = split (met_at (codes "/not/pattern") for_verdict) refl (whole refl) (whole refl)
not_is_taken_apart iter_errors (suc n) = split (met_at (codes "/not/pattern") for_verdict) refl (whole refl) (whole refl)
not_is_taken_apart evaluate zero = split (met_at (codes "/not/pattern") for_verdict) refl (whole refl) (whole refl)
not_is_taken_apart evaluate (suc n) = split (met_at (codes "/not/pattern") for_verdict) refl (whole refl) (whole refl)

abbrev none_match : Completion
none_match = record { otherwise = false; except = [] }

pub not_is_refused : Rows.NotIsRefused
not_is_refused zero = (all_match, refl)
not_is_refused (suc n) = (all_match, refl)

pub not_shares_no_error : Rows.NotSharesNoError
not_shares_no_error zero = leave (λ shared. let h : false ≡ true = shared none_match in absurd (cc)) none
not_shares_no_error (suc n) = leave (λ shared. let h : false ≡ true = shared none_match in absurd (cc)) none

-- The match is met below the first schema of `anyOf`, and, if it is a no, below the second one too.
abbrev either_met : Mode → Met
either_met mode = met_at (codes "/anyOf/0/pattern") mode

pub either_is_taken_apart : Rows.EitherIsTakenApart
unfolding digits
either_is_taken_apart is_valid zero = split (either_met for_verdict) refl (whole refl) (whole refl)
either_is_taken_apart is_valid (suc n) = split (either_met for_verdict) refl (whole refl) (whole refl)
either_is_taken_apart validate zero = split (either_met for_verdict) refl (whole refl) (whole refl)
either_is_taken_apart validate (suc n) = split (either_met for_verdict) refl (whole refl) (whole refl)
either_is_taken_apart iter_errors zero = split (either_met for_verdict) refl (whole refl) (whole refl)
either_is_taken_apart iter_errors (suc n) = split (either_met for_verdict) refl (whole refl) (whole refl)
either_is_taken_apart evaluate zero = split (either_met for_units) refl (whole refl) (whole refl)
either_is_taken_apart evaluate (suc n) = split (either_met for_units) refl (whole refl) (whole refl)

-- The verdict of `anyOf`, if the match counts as b.
abbrev either_holds : Bool → Bool
either_holds b = (b && true) || ((not ((b && true) && true) && true) || false)

abbrev either_says : Bool → Outcome
either_says b = kept (both (record { verdict = either_holds b; errors = map (fault_error (at (worked_parts (Rows.pattern ∷ []) Rows.either_schema) Rows.abc (root_of (Rows.pattern ∷ []) Rows.either_schema) [] []) (codes "anyOf")) (own_faults (is_any_of 2) (a_value Rows.abc) (either_holds b)); spans = spans_nothing }) accepted)

either_always : (b : Bool) → either_says b ≡ accepted
either_always true = refl
either_always false = refl

pub either_is_accepted : Rows.EitherIsAccepted
either_is_accepted zero h c = either_always (completed c (record { pattern = Rows.pattern; subject = codes "abc" }))
either_is_accepted (suc n) h c = either_always (completed c (record { pattern = Rows.pattern; subject = codes "abc" }))

pub long_shares_one_error : Rows.LongSharesOneError
unfolding serde_json_on_literals
long_shares_one_error zero = keep (λ c. refl) none
long_shares_one_error (suc n) = keep (λ c. refl) none

pub long_verdict_is_whole : Rows.LongVerdictIsWhole
long_verdict_is_whole zero = whole refl
long_verdict_is_whole (suc n) = whole refl

pub long_errors_are_taken_apart : Rows.LongErrorsAreTakenApart
long_errors_are_taken_apart zero = split (met_at (codes "/pattern") for_verdict) refl (whole refl) (whole refl)
long_errors_are_taken_apart (suc n) = split (met_at (codes "/pattern") for_verdict) refl (whole refl) (whole refl)

-- ---- references

pub nested_is_refused : Rows.NestedIsRefused
unfolding serde_json_on_literals
nested_is_refused = at_least 2 (λ n. (c : Completion) → (Rows.sense [] Rows.nested_schema Rows.nested n).says c ≡ Rows.refused_by Rows.nested_error) (λ c. refl) (λ n c. refl)

pub nested_does_not_return : Rows.NestedDoesNotReturn
nested_does_not_return = refl

pub chain_is_refused : Rows.ChainIsRefused
unfolding digits percent_decode utf8_lossy utf8_valid_len is_utf8 chars encode
chain_is_refused = at_least 10 (λ n. (c : Completion) → (Rows.sense [] Rows.chain_schema (number (unsigned 1)) n).says c ≡ Rows.refused_by Rows.chain_error) (λ c. refl) (λ n c. refl)

pub embedded_counts_from_its_resource : Rows.EmbeddedCountsFromItsResource
unfolding digits percent_decode utf8_lossy utf8_valid_len is_utf8 chars encode
embedded_counts_from_its_resource = at_least 1 (λ n. (c : Completion) → (Rows.sense [] Rows.embedded_schema (number (unsigned 1)) n).says c ≡ Rows.refused_by Rows.embedded_error) (λ c. refl) (λ n c. refl)

-- ---- returns

pub self_is_no_keyword : Rows.SelfIsNoKeyword
self_is_no_keyword = refl

pub turning_returns : Rows.TurningReturns
turning_returns = refl

pub turning_is_accepted : Rows.TurningIsAccepted
turning_is_accepted = at_least 5 (λ n. EachAccepts (guarded_sense words (tiny_matcher []) Rows.turning_nodes (subject (worked_parts [] Rows.turning_schema) (number (unsigned 1))) n 0)) (λ c. refl) (λ n c. refl)
