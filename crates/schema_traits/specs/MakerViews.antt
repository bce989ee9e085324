-- How the turns of a maker follow its script.
use Rattle.std.specs.Prelude.{◌≡◌, ℕ, suc, List, [], ◌∷◌, Bool, true, false, None, Some, is_some, map, string_bytes}
use Rattle.serde_json.specs.Data.{Members}
use Rattle.serde_json.specs.Written.{members_have_float}
use Rattle.theory_definitions.specs.Instance.{Text, Place, member_of}
use Rattle.theory_definitions.specs.Making as spec
use Rattle.theory_definitions.specs.Reports.{told_error}
use Rattle.schema_drafts.specs.KeywordViews.{builtin_text}
use Rattle.schema_reports.specs.ReportViews.{owned_error_of}
use Rattle.schema_traits.specs.declared.table.KeywordOrigin.{KeywordOrigin}
use Rattle.schema_traits.specs.declared.table.KeywordOrigin.TheVariants.{Own, Builtin}
use Rattle.schema_traits.specs.declared.table.PendingKind.{PendingKind}
use Rattle.schema_traits.specs.declared.table.PendingKind.TheVariants as kind
use Rattle.schema_traits.specs.declared.table.MakerReply.{MakerReply}
use Rattle.schema_traits.specs.declared.table.MakerReply.TheVariants as reply
use Rattle.schema_traits.specs.declared.table.MakerStep.{MakerStep}
use Rattle.schema_traits.specs.declared.table.MakerStep.TheVariants.{Compile, Refer, Pending, Reserve, Keyword, Nothing, Refuse}

abbrev pub is_own : KeywordOrigin → Bool
is_own (Own name) = true
is_own (Builtin e) = false

abbrev pub name_of : KeywordOrigin → Text
name_of (Own name) = name.now
name_of (Builtin e) = builtin_text e.keyword

abbrev pub purpose_of : PendingKind → spec.Purpose
purpose_of kind.Properties = spec.for_properties
purpose_of kind.Items = spec.for_items

-- what a maker receives; the values of pending and reserved numbers are left out
pub data Told : Type 0 where
  nothing_yet : Told
  the_number : ℕ → Told
  a_skip : Told
  none_pending : Told
  one_pending : Told
  a_reserved : Told

abbrev pub maker_reply_of : MakerReply → Told
maker_reply_of reply.Begun = nothing_yet
maker_reply_of (reply.Child n) = the_number n
maker_reply_of reply.Skipped = a_skip
maker_reply_of (reply.Pending None) = none_pending
maker_reply_of (reply.Pending (Some p)) = one_pending
maker_reply_of (reply.Reserved p) = a_reserved

-- what a maker waits for:
-- - its first turn;
-- - the answer to its request with this number: it goes on with the first script if it gets the
--   number of a node, and with the second if the reference is skipped;
-- - the pending number, after this many numbered requests: it goes on with the first script if
--   there is none, and with the second if there is one;
-- - the reserved number, after this many numbered requests;
-- - nothing: it has ended
pub data Waiting (K : Type 0) : Type 0 where
  begun : spec.Script K → Waiting K
  waits : ℕ → spec.Script K → spec.Script K → Waiting K
  wants_pending : ℕ → spec.Script K → spec.Script K → Waiting K
  wants_reserved : ℕ → spec.Script K → Waiting K
  ended : Waiting K

-- a step is the first of a script whose next request has this number, and w is what the maker waits
-- for after it; the text of a refusal is the script's, if the script covers it
abbrev pub IsStepOf : {C K : Type 0} → (C → K) → ℕ → spec.Script K → MakerStep C → Waiting K → Type 0
IsStepOf shape n (spec.then_compile path s) (Compile p) w = (p ≡ path) × (w ≡ waits n s s)
IsStepOf shape n (spec.then_refer text s skipped) (Refer t) w = (string_bytes t ≡ text) × (w ≡ waits n s skipped)
IsStepOf shape n (spec.then_pending purpose free held) (Pending k) w = (purpose_of k ≡ purpose) × (w ≡ wants_pending n free held)
IsStepOf shape n (spec.then_reserve purpose s) (Reserve k) w = (purpose_of k ≡ purpose) × (w ≡ wants_reserved n s)
IsStepOf shape n (spec.then_end (spec.a_keyword m absorbed)) (Keyword k names) w = (shape k ≡ m) × (map string_bytes names.items ≡ absorbed)
IsStepOf shape n (spec.then_end spec.nothing) Nothing w = Unit {0}
IsStepOf shape n (spec.then_end (spec.refused told error)) (Refuse e) w = told_error told (owned_error_of e) ≡ told_error told error
IsStepOf shape n _ _ w = ⊥

-- if the reply is one that the maker waits for, then its step is the next one of its script;
-- nothing is said of other replies
abbrev pub TakesTurn : {C K : Type 0} → (C → K) → Waiting K → Told → MakerStep C → Waiting K → Type 0
TakesTurn shape (begun s) nothing_yet step w = IsStepOf shape 0 s step w
TakesTurn shape (waits n s skipped) (the_number m) step w = m ≡ n → IsStepOf shape (suc n) s step w
TakesTurn shape (waits n s skipped) a_skip step w = IsStepOf shape (suc n) skipped step w
TakesTurn shape (wants_pending n free held) none_pending step w = IsStepOf shape n free step w
TakesTurn shape (wants_pending n free held) one_pending step w = IsStepOf shape n held step w
TakesTurn shape (wants_reserved n s) a_reserved step w = IsStepOf shape n s step w
TakesTurn shape _ _ step w = Unit {0}

-- a path that is not empty leads strictly below an object
abbrev pub IsStrictlyBelow : Place → Type 0
IsStrictlyBelow [] = ⊥
IsStrictlyBelow (s ∷ path) = Unit {0}

-- these are names of members of the object
abbrev pub AreMembers : Members → List Text → Type 0
AreMembers object [] = Unit {0}
AreMembers object (name ∷ names) = (is_some (member_of name object) ≡ true) × AreMembers object names

-- a keyword comes with the names that it absorbs, all of them members of the object, and is whole
-- if the object holds no fraction; the text of a refusal is covered if the object holds no fraction
abbrev pub IsMade : {K : Type 0} → (K → List Text) → (K → Bool) → Members → spec.Made K → Type 0
IsMade absorbed is_whole object (spec.a_keyword m names) = (names ≡ absorbed m) × (members_have_float object ≡ false → is_whole m ≡ true) × AreMembers object names
IsMade absorbed is_whole object spec.nothing = Unit {0}
IsMade absorbed is_whole object (spec.refused told e) = members_have_float object ≡ false → told ≡ true

-- whether or not a number is pending, the maker requests the same subschemas and references, and
-- ends the same
abbrev pub PendingChangesNothing : {K : Type 0} → spec.Script K → spec.Script K → Type 0
PendingChangesNothing free held = (is_self : Text → Bool) → spec.followed is_self free ≡ spec.followed is_self held

-- a script requests only what lies strictly below the object, and each of its ends is as `IsMade`
-- says
abbrev pub MakesRightly : {K : Type 0} → (K → List Text) → (K → Bool) → Members → spec.Script K → Type 0
MakesRightly absorbed is_whole object (spec.then_compile path s) = IsStrictlyBelow path × MakesRightly absorbed is_whole object s
MakesRightly absorbed is_whole object (spec.then_refer text s skipped) = MakesRightly absorbed is_whole object s × MakesRightly absorbed is_whole object skipped
MakesRightly absorbed is_whole object (spec.then_pending purpose free held) = PendingChangesNothing free held × MakesRightly absorbed is_whole object free × MakesRightly absorbed is_whole object held
MakesRightly absorbed is_whole object (spec.then_reserve purpose s) = MakesRightly absorbed is_whole object s
MakesRightly absorbed is_whole object (spec.then_end m) = IsMade absorbed is_whole object m
