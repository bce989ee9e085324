-- The makers of a keyword table, which make keywords from the members of an object: what each maker
-- requests in turn, and how it ends. Node numbers do not occur in a script, so they cannot change
-- what a maker requests or how it ends. Requests for pending or reserved numbers do not count as
-- requests of a making. So a child has the same number, whether a number was pending or not. (Core
-- 2020-12, 4.3.1 and 6.5)
use Rattle.std.specs.Prelude.{Bool, List, Option, [], if◌then◌else◌, ℕ, ◌∷◌}
use Rattle.serde_json.specs.Data.{Members}
use Rattle.theory_definitions.specs.Instance.{Place, Text}
use Rattle.theory_definitions.specs.Reports.{OwnedError}
use Rattle.theory_definitions.specs.Drafts.{Draft, Vocabularies}

-- What a maker requests from the engine: the node of a subschema, or the node of a reference's
-- target.
pub data Request : Type 0 where
  compile : Place → Request
  refer : Text → Request

-- How a maker ends: with a keyword and the names that it absorbs, with nothing, or with a refusal,
-- which says whether its text is reported.
pub data Made (K : Type 0) : Type 0 where
  a_keyword : K → List Text → Made K
  nothing : Made K
  refused : Bool → OwnedError → Made K

-- What a maker reserves a node number for.
pub data Purpose : Type 0 where
  for_properties for_items : Purpose

-- The steps of a maker, each with the script that comes after it. A maker may request the node of a
-- subschema or of a reference's target; a reference to the object that contains it is skipped, and
-- has a second script for that case. A maker may request the number that is pending for a purpose;
-- it has one script if there is none, and another if there is one. It may reserve a number. Then it
-- ends.
pub data Script (K : Type 0) : Type 0 where
  then_compile : Place → Script K → Script K
  then_refer : Text → Script K → Script K → Script K
  then_pending : Purpose → Script K → Script K → Script K
  then_reserve : Purpose → Script K → Script K
  then_end : Made K → Script K

-- The requests of a maker in order, and how it ends.
pub record Making (K : Type 0) : Type 0 where
  pub requests : List Request
  pub ends : Made K

-- The requests of a maker, with one more before them.
abbrev pub after_request : {K : Type 0} → Request → Making K → Making K
after_request r m = record { requests = r ∷ m.requests; ends = m.ends }

-- The requests of a script and how it ends, if no number is pending; `is_self` says which
-- references lead to the object that contains them.
abbrev pub followed : {K : Type 0} → (Text → Bool) → Script K → Making K
followed is_self (then_compile path s) = after_request (compile path) (followed is_self s)
followed is_self (then_refer text s skipped) = after_request (refer text) (if is_self text then followed is_self skipped else followed is_self s)
followed is_self (then_pending purpose free held) = followed is_self free
followed is_self (then_reserve purpose s) = followed is_self s
followed is_self (then_end m) = record { requests = []; ends = m }

-- A maker that is stopped makes nothing.
abbrev pub stopped : {K : Type 0} → Making K
stopped = record { requests = []; ends = nothing }

-- The first request that is refused stops the maker, and is the last that it makes.
abbrev pub until_refused : {K : Type 0} → (Request → Bool) → List Request → Made K → Making K
until_refused is_refused [] m = record { requests = []; ends = m }
until_refused is_refused (r ∷ rs) m = after_request r (if is_refused r then stopped else until_refused is_refused rs m)

-- An entry of the table of built-in keywords.
pub record Builtin : Type 0 where
  pub name : Text
  pub priority : ℕ
  pub is_leaf : Bool

-- A keyword table: the names of its own keywords, the built-in keywords of each draft and each set
-- of vocabularies, and the scripts of the makers.
pub record Table (K : Type 0) : Type 0 where
  pub owns : Text → Bool
  pub builtin : Draft → Vocabularies → Text → Option Builtin
  -- `script custom name object draft vocabularies formats` is the script of the maker of a member,
  -- which is a keyword of the table's own if `custom` is set, and a built-in one if not.
  pub script : Bool → Text → Members → Draft → Vocabularies → Bool → Script K
