-- The functions of a kind agree with each other and depend only on what is asked, and the errors
-- lie inside the instance.
use Rattle.std.proofs.Common.{◌≡◌, ◌∙◌, zero, ◌&&◌, ◌++◌, ◌∷◌, [], List, Bool, true, false, refl, ap, ap₂, arith, map}
use Rattle.std.specs.List.{list_all}
use Rattle.std.specs.Prelude.{All, Contains, Option, None, Some, flat_map, min, ◌↔◌}
use Rattle.std.proofs.lemmas.List.Elements.{All-nil, All-head, All-tail, All-append, All-map, All-cons, All-weaker, All-contains_itself, Contains-append_left, Contains-append_right}
use Rattle.theory_definitions.specs.Instance.{Text, Subject}
use Rattle.theory_definitions.specs.Reports.{Unit_, Error, report_of}
use Rattle.theory_definitions.specs.Matching.{Matching}
use Rattle.theory_definitions.specs.Keywords.{Answers, Fault, Gives, Question, all_valid, own, passed}
use Rattle.theory_definitions.specs.Laws.{Agrees, StandsInside, PassesUnchanged}
use Rattle.schema_traits.specs.KeywordViews.{is_nil, no_gives, option_list}
use Rattle.keyword_authoring.specs.Ways.{Way, asks_match, described, is_matched, unless, tells, passes_on, passes_some, judges, branches, branch, given, plain, questions, way_holds, way_faults, way_units}
use Rattle.keyword_authoring.specs.Somes.{somes}
use Rattle.keyword_authoring.specs.Tallies.{counted, told_by, yes_count}

and_true : (b : Bool) → (b && true) ≡ b
and_true true = refl
and_true false = refl

told_agree : (name : Text) (ts : List Text) → (is_nil ts ≡ true) ↔ (map (λ t. own (plain name t)) ts ≡ [])
told_agree name [] = (λ h. refl, λ h. refl)
told_agree name (t ∷ ts) = (λ h. cc, λ h. cc)

all_none : (b all : Bool) (es : List Error) (fs : List Fault) → (b ≡ true → es ≡ []) → (all ≡ true → fs ≡ []) → (b && all) ≡ true → map passed es ++ fs ≡ []
all_none true all es fs first rest h = ap (λ xs. map passed xs ++ fs) (first refl) ∙ rest h
all_none false all es fs first rest h = cc

none_all : (b all : Bool) (es : List Error) (fs : List Fault) → (es ≡ [] → b ≡ true) → (fs ≡ [] → all ≡ true) → map passed es ++ fs ≡ [] → (b && all) ≡ true
none_all b all [] fs first rest h = ap (λ x. x && all) (first refl) ∙ rest h
none_all b all (e ∷ es) fs first rest h = cc

all_accept : (answers : Answers) → ((q : Question) → Agrees (answers q)) → (qs : List Question)
    → list_all (λ q. (answers q).verdict) qs ≡ true → flat_map (λ q. map passed (answers q).errors) qs ≡ []
all_accept answers agrees [] h = refl
all_accept answers agrees (q ∷ qs) h = all_none (answers q).verdict _ (answers q).errors _ (agrees q).0 (all_accept answers agrees qs) h

none_refuses : (answers : Answers) → ((q : Question) → Agrees (answers q)) → (qs : List Question)
    → flat_map (λ q. map passed (answers q).errors) qs ≡ [] → list_all (λ q. (answers q).verdict) qs ≡ true
none_refuses answers agrees [] h = refl
none_refuses answers agrees (q ∷ qs) h = none_all (answers q).verdict _ (answers q).errors _ (agrees q).1 (none_refuses answers agrees qs) h

unless_agrees : (b : Bool) (name text : Text) → (b ≡ true) ↔ (map (λ t. own (plain name t)) (unless b text) ≡ [])
unless_agrees true name text = (λ h. refl, λ h. refl)
unless_agrees false name text = (λ h. cc, λ h. cc)

-- the keyword accepts exactly if there is no fault
pub way_agrees : (w : Way) (matching : Matching) (answers : Answers) → ((q : Question) → Agrees (answers q)) → (way_holds w matching (λ q. (answers q).verdict) ≡ true) ↔ (way_faults w matching answers ≡ [])
way_agrees (tells name ts) matching answers agrees = told_agree name ts
way_agrees (passes_on qs) matching answers agrees = (all_accept answers agrees qs, none_refuses answers agrees qs)
way_agrees (passes_some os) matching answers agrees = (all_accept answers agrees (somes os), none_refuses answers agrees (somes os))
way_agrees (judges t qs) matching answers agrees = told_agree t.name (told_by t (λ q. (answers q).verdict) qs)
way_agrees (branches q one other) matching answers agrees = (all_accept answers agrees (branch (answers q).verdict one other), none_refuses answers agrees (branch (answers q).verdict one other))
way_agrees (asks_match name p text) matching answers agrees = unless_agrees (is_matched matching p) name text

all_same : (a b : Question → Bool) (qs : List Question) → All (λ q. a q ≡ b q) qs → list_all a qs ≡ list_all b qs
all_same a b [] h = refl
all_same a b (q ∷ qs) h =
    let first : a q ≡ b q = All-head (λ q. a q ≡ b q) q qs h in
    let rest : list_all a qs ≡ list_all b qs = all_same a b qs (All-tail (λ q. a q ≡ b q) q qs h) in
    cc

faults_same : (a b : Answers) (qs : List Question) → All (λ q. a q ≡ b q) qs → flat_map (λ q. map passed (a q).errors) qs ≡ flat_map (λ q. map passed (b q).errors) qs
faults_same a b [] h = refl
faults_same a b (q ∷ qs) h =
    ap (λ o. map passed o.errors ++ flat_map (λ q. map passed (a q).errors) qs) (All-head (λ q. a q ≡ b q) q qs h)
    ∙ ap (λ fs. map passed (b q).errors ++ fs) (faults_same a b qs (All-tail (λ q. a q ≡ b q) q qs h))

units_same : (a b : Question → Unit_) (qs : List Question) → All (λ q. a q ≡ b q) qs → map a qs ≡ map b qs
units_same a b [] h = refl
units_same a b (q ∷ qs) h =
    let first : a q ≡ b q = All-head (λ q. a q ≡ b q) q qs h in
    let rest : map a qs ≡ map b qs = units_same a b qs (All-tail (λ q. a q ≡ b q) q qs h) in
    cc

counts_same : (a b : Question → Bool) (qs : List Question) → All (λ q. a q ≡ b q) qs → yes_count a qs ≡ yes_count b qs
counts_same a b [] h = refl
counts_same a b (q ∷ qs) h =
    ap (λ x. counted x (yes_count a qs)) (All-head (λ q. a q ≡ b q) q qs h)
    ∙ ap (counted (b q)) (counts_same a b qs (All-tail (λ q. a q ≡ b q) q qs h))

verdicts_same : (a b : Answers) (qs : List Question) → All (λ q. a q ≡ b q) qs → yes_count (λ q. (a q).verdict) qs ≡ yes_count (λ q. (b q).verdict) qs
verdicts_same a b qs h = counts_same (λ q. (a q).verdict) (λ q. (b q).verdict) qs (All-weaker (λ q. a q ≡ b q) (λ q. (a q).verdict ≡ (b q).verdict) (λ q e. ap (λ o. o.verdict) e) qs h)

-- a fact about both branches is a fact about the one that follows
of_branch : (P : Question → Type 0) (b : Bool) (one other : Option Question) → All P (option_list one ++ option_list other) → All P (branch b one other)
of_branch P true None other h = All-nil P
of_branch P true (Some y) other h = All-cons P y [] (All-head P y (option_list other) h) (All-nil P)
of_branch P false None other h = h
of_branch P false (Some y) other h = All-tail P y (option_list other) h

in_branches : (b : Bool) (one other : Option Question) (q p : Question) → Contains (branch b one other) p → Contains (q ∷ (option_list one ++ option_list other)) p
in_branches true one other q p h = Contains-append_right (q ∷ []) (option_list one ++ option_list other) p (Contains-append_left (option_list one) (option_list other) p h)
in_branches false one other q p h = Contains-append_right (q ∷ []) (option_list one ++ option_list other) p (Contains-append_right (option_list one) (option_list other) p h)

pub way_holds_reads : (w : Way) (matching : Matching) (a b : Question → Bool) → All (λ q. a q ≡ b q) (questions w) → way_holds w matching a ≡ way_holds w matching b
way_holds_reads (tells name ts) matching a b h = refl
way_holds_reads (passes_on qs) matching a b h = all_same a b qs h
way_holds_reads (passes_some os) matching a b h = all_same a b (somes os) h
way_holds_reads (judges t qs) matching a b h = ap (λ n. is_nil (t.told (min t.enough n))) (counts_same a b qs h)
way_holds_reads (branches q one other) matching a b h =
    ap (λ x. list_all a (branch x one other)) (All-head (λ q. a q ≡ b q) q (option_list one ++ option_list other) h)
    ∙ all_same a b (branch (b q) one other) (of_branch (λ q. a q ≡ b q) (b q) one other (All-tail (λ q. a q ≡ b q) q (option_list one ++ option_list other) h))
way_holds_reads (asks_match name p text) matching a b h = refl

pub way_faults_read : (w : Way) (matching : Matching) (a b : Answers) → All (λ q. a q ≡ b q) (questions w) → way_faults w matching a ≡ way_faults w matching b
way_faults_read (tells name ts) matching a b h = refl
way_faults_read (passes_on qs) matching a b h = faults_same a b qs h
way_faults_read (passes_some os) matching a b h = faults_same a b (somes os) h
way_faults_read (judges t qs) matching a b h = ap (λ n. map (λ x. own (plain t.name x)) (t.told (min t.enough n))) (verdicts_same a b qs h)
way_faults_read (branches q one other) matching a b h =
    ap (λ o. flat_map (λ q. map passed (a q).errors) (branch o.verdict one other)) (All-head (λ q. a q ≡ b q) q (option_list one ++ option_list other) h)
    ∙ faults_same a b (branch (b q).verdict one other) (of_branch (λ q. a q ≡ b q) (b q).verdict one other (All-tail (λ q. a q ≡ b q) q (option_list one ++ option_list other) h))
way_faults_read (asks_match name p text) matching a b h = refl

units_counted : (a b : Question → Unit_) (qs : List Question) → All (λ q. a q ≡ b q) qs → yes_count (λ q. (report_of (a q)).valid) qs ≡ yes_count (λ q. (report_of (b q)).valid) qs
units_counted a b qs h = counts_same (λ q. (report_of (a q)).valid) (λ q. (report_of (b q)).valid) qs (All-weaker (λ q. a q ≡ b q) (λ q. (report_of (a q)).valid ≡ (report_of (b q)).valid) (λ q e. ap (λ u. (report_of u).valid) e) qs h)

given_same : (shows : Bool) (a b : Question → Unit_) (qs : List Question) → All (λ q. a q ≡ b q) qs → given shows a qs ≡ given shows b qs
given_same true a b qs h = units_same a b qs h
given_same false a b qs h = refl

-- the keyword has a unit of its own and absorbs none; its unit is valid if it accepts
pub way_units_valid : (w : Way) (matching : Matching) (u : Question → Unit_) → all_valid (way_units w matching u) ≡ way_holds w matching (λ q. (report_of (u q)).valid)
way_units_valid (tells name ts) matching u = and_true _
way_units_valid (passes_on qs) matching u = and_true _
way_units_valid (passes_some os) matching u = and_true _
way_units_valid (judges t qs) matching u = and_true _
way_units_valid (branches q one other) matching u = and_true _
way_units_valid (asks_match name p text) matching u = and_true _

-- units that are the same have one verdict
valid_same : (a b : Question → Unit_) (qs : List Question) → All (λ q. a q ≡ b q) qs → All (λ q. (report_of (a q)).valid ≡ (report_of (b q)).valid) qs
valid_same a b qs h = All-weaker (λ q. a q ≡ b q) (λ q. (report_of (a q)).valid ≡ (report_of (b q)).valid) (λ q e. ap (λ u. (report_of u).valid) e) qs h

all_valid_same : (a b : Question → Unit_) (qs : List Question) → All (λ q. a q ≡ b q) qs → list_all (λ q. (report_of (a q)).valid) qs ≡ list_all (λ q. (report_of (b q)).valid) qs
all_valid_same a b qs h = all_same (λ q. (report_of (a q)).valid) (λ q. (report_of (b q)).valid) qs (valid_same a b qs h)

passed_units : (a b : Question → Unit_) (qs : List Question) → All (λ q. a q ≡ b q) qs
    → ◌≡◌ {A = Gives} (record no_gives { valid = list_all (λ q. (report_of (a q)).valid) qs; children = map a qs }) (record no_gives { valid = list_all (λ q. (report_of (b q)).valid) qs; children = map b qs })
passed_units a b qs h = ap₂ (λ v us. record no_gives { valid = v; children = us }) (all_valid_same a b qs h) (units_same a b qs h)

pub way_units_read : (w : Way) (matching : Matching) (a b : Question → Unit_) → All (λ q. a q ≡ b q) (questions w) → way_units w matching a ≡ way_units w matching b
way_units_read (tells name ts) matching a b h = refl
way_units_read (passes_on qs) matching a b h = passed_units a b qs h
way_units_read (passes_some os) matching a b h = passed_units a b (somes os) h
way_units_read (judges t qs) matching a b h =
    ap (λ us. record no_gives { valid = is_nil (told_by t (λ q. (report_of (a q)).valid) qs); children = us; errors = map (described t.name) (told_by t (λ q. (report_of (a q)).valid) qs) }) (given_same t.shows a b qs h)
    ∙ ap (λ n. record no_gives { valid = is_nil (t.told (min t.enough n)); children = given t.shows b qs; errors = map (described t.name) (t.told (min t.enough n)) }) (units_counted a b qs h)
way_units_read (branches q one other) matching a b h =
    ap (λ u. record no_gives { valid = list_all (λ q. (report_of (a q)).valid) (branch (report_of u).valid one other); children = map a (branch (report_of u).valid one other) }) (All-head (λ q. a q ≡ b q) q (option_list one ++ option_list other) h)
    ∙ passed_units a b (branch (report_of (b q)).valid one other) (of_branch (λ q. a q ≡ b q) (report_of (b q)).valid one other (All-tail (λ q. a q ≡ b q) q (option_list one ++ option_list other) h))
way_units_read (asks_match name p text) matching a b h = refl

passed_stand : (s : Subject) (absorbed : List Text) (answers : Answers) (qs : List Question) → All (StandsInside s absorbed) (flat_map (λ q. map passed (answers q).errors) qs)
passed_stand s absorbed answers [] = All-nil _
passed_stand s absorbed answers (q ∷ qs) = All-append (StandsInside s absorbed) (map passed (answers q).errors) _
    (All-map (StandsInside s absorbed) passed (answers q).errors (λ k d h. tt)) (passed_stand s absorbed answers qs)

-- the keyword's own errors are at the keyword, and those that are passed on are answers to
-- questions
pub way_stands_inside : (w : Way) (matching : Matching) (s : Subject) (absorbed : List Text) (answers : Answers) → All (StandsInside s absorbed) (way_faults w matching answers)
way_stands_inside (tells name ts) matching s absorbed answers = All-map (StandsInside s absorbed) (λ t. own (plain name t)) ts (λ k d h. (refl, ([], refl), tt))
way_stands_inside (passes_on qs) matching s absorbed answers = passed_stand s absorbed answers qs
way_stands_inside (passes_some os) matching s absorbed answers = passed_stand s absorbed answers (somes os)
way_stands_inside (judges t qs) matching s absorbed answers = All-map (StandsInside s absorbed) (λ x. own (plain t.name x)) (told_by t (λ q. (answers q).verdict) qs) (λ k d h. (refl, ([], refl), tt))
way_stands_inside (branches q one other) matching s absorbed answers = passed_stand s absorbed answers (branch (answers q).verdict one other)
way_stands_inside (asks_match name p text) matching s absorbed answers = All-map (StandsInside s absorbed) (λ t. own (plain name t)) (unless (is_matched matching p) text) (λ k d h. (refl, ([], refl), tt))

widened : (answers : Answers) (p : Question) (qs : List Question) (f : Fault) → PassesUnchanged answers qs f → PassesUnchanged answers (p ∷ qs) f
widened answers p qs (own o) h = tt
widened answers p qs (passed e) (q, there, is) = (q, Contains-append_right (p ∷ []) qs q there, is)

errors_passed : (answers : Answers) (later : List Question) (q : Question) → All (PassesUnchanged answers (q ∷ later)) (map passed (answers q).errors)
errors_passed answers later q = All-map (PassesUnchanged answers (q ∷ later)) passed (answers q).errors
    (All-weaker (Contains (answers q).errors) (λ e. PassesUnchanged answers (q ∷ later) (passed e)) (λ e is. (q, (zero, omega arith, refl), is)) (answers q).errors (All-contains_itself (answers q).errors))

passed_unchanged : (answers : Answers) (qs : List Question) → All (PassesUnchanged answers qs) (flat_map (λ q. map passed (answers q).errors) qs)
passed_unchanged answers [] = All-nil _
passed_unchanged answers (q ∷ qs) = All-append (PassesUnchanged answers (q ∷ qs)) (map passed (answers q).errors) _
    (errors_passed answers qs q) (All-weaker (PassesUnchanged answers qs) (PassesUnchanged answers (q ∷ qs)) (widened answers q qs) _ (passed_unchanged answers qs))

from_branch : (answers : Answers) (b : Bool) (one other : Option Question) (q : Question) (f : Fault) → PassesUnchanged answers (branch b one other) f → PassesUnchanged answers (q ∷ (option_list one ++ option_list other)) f
from_branch answers b one other q (own o) h = tt
from_branch answers b one other q (passed e) (p, there, is) = (p, in_branches b one other q p there, is)

pub way_passes : (w : Way) (matching : Matching) (answers : Answers) → All (PassesUnchanged answers (questions w)) (way_faults w matching answers)
way_passes (tells name ts) matching answers = All-map (PassesUnchanged answers []) (λ t. own (plain name t)) ts (λ k d h. tt)
way_passes (passes_on qs) matching answers = passed_unchanged answers qs
way_passes (passes_some os) matching answers = passed_unchanged answers (somes os)
way_passes (judges t qs) matching answers = All-map (PassesUnchanged answers qs) (λ x. own (plain t.name x)) (told_by t (λ q. (answers q).verdict) qs) (λ k d h. tt)
way_passes (branches q one other) matching answers = All-weaker (PassesUnchanged answers (branch (answers q).verdict one other)) (PassesUnchanged answers (q ∷ (option_list one ++ option_list other)))
    (from_branch answers (answers q).verdict one other q) _ (passed_unchanged answers (branch (answers q).verdict one other))
way_passes (asks_match name p text) matching answers = All-map (PassesUnchanged answers []) (λ t. own (plain name t)) (unless (is_matched matching p) text) (λ k d h. tt)
