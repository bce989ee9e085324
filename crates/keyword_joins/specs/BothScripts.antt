-- What the makers of two joined tables request and make: the same as the makers of the table that
-- the name goes to, with a keyword of one of two types.
use Rattle.std.specs.List.{list_any}
use Rattle.std.specs.Prelude.{Bool, bytes_eq, if◌then◌else◌, ◌||◌}
use Rattle.serde_json.specs.Data.{Members}
use Rattle.theory_definitions.specs.Instance.{Text}
use Rattle.theory_definitions.specs.Drafts.{Draft, Vocabularies}
use Rattle.theory_definitions.specs.Making.{Made, Script, a_keyword, nothing, refused, then_compile, then_end, then_pending, then_refer, then_reserve}
use Rattle.schema_traits.specs.MakerViews.{Waiting, begun, ended, wants_pending, wants_reserved, waits}
use Rattle.schema_traits.specs.declared.table.MakerStep.{MakerStep}
use Rattle.schema_traits.specs.declared.table.MakerStep.TheVariants.{Compile, Refer, Pending, Reserve, Keyword, Nothing, Refuse}
use Rattle.keyword_joins.specs.declared.both.Both.{Both}
use Rattle.keyword_joins.specs.declared.both.Both.TheVariants.{First, Second}
use Rattle.keyword_joins.specs.declared.table.BothTable.{BothTable}

-- ---- the keywords of one type as keywords of another

abbrev pub made_as : {A B : Type 0} → (A → B) → Made A → Made B
made_as f (a_keyword m names) = a_keyword (f m) names
made_as f nothing = nothing
made_as f (refused told e) = refused told e

abbrev pub script_as : {A B : Type 0} → (A → B) → Script A → Script B
script_as f (then_compile path s) = then_compile path (script_as f s)
script_as f (then_refer text s skipped) = then_refer text (script_as f s) (script_as f skipped)
script_as f (then_pending purpose free held) = then_pending purpose (script_as f free) (script_as f held)
script_as f (then_reserve purpose s) = then_reserve purpose (script_as f s)
script_as f (then_end m) = then_end (made_as f m)

abbrev pub waiting_as : {A B : Type 0} → (A → B) → Waiting A → Waiting B
waiting_as f (begun s) = begun (script_as f s)
waiting_as f (waits n s skipped) = waits n (script_as f s) (script_as f skipped)
waiting_as f (wants_pending n free held) = wants_pending n (script_as f free) (script_as f held)
waiting_as f (wants_reserved n s) = wants_reserved n (script_as f s)
waiting_as f ended = ended

abbrev pub step_as : {A B : Type 0} → (A → B) → MakerStep A → MakerStep B
step_as f (Compile path) = Compile path
step_as f (Refer text) = Refer text
step_as f (Pending kind) = Pending kind
step_as f (Reserve kind) = Reserve kind
step_as f (Keyword keyword names) = Keyword (f keyword) names
step_as f Nothing = Nothing
step_as f (Refuse error) = Refuse error

-- ---- two tables

-- a name of the list goes to the first table, and so does a name that the first table owns
abbrev pub goes_first : {S T : Type 0} → (S → Text → Bool) → BothTable S T → Text → Bool
goes_first owned t name = list_any (λ k. bytes_eq name k.now) t.first_names.now || owned t.first name

abbrev pub both_owned : {S T : Type 0} → (S → Text → Bool) → (T → Text → Bool) → BothTable S T → Text → Bool
both_owned one other t name = if goes_first one t name then one t.first name else other t.second name

-- the scripts of the makers of a table of this type
abbrev pub Scripts : Type 0 → Type 0 → Type 0
Scripts T K = T → Bool → Text → Members → Draft → Vocabularies → Bool → Script K

abbrev pub both_script : {S T M N : Type 0} → (S → Text → Bool) → Scripts S M → Scripts T N → Scripts (BothTable S T) (Both M N)
both_script owned one other t own name object draft vocabularies formats =
    if goes_first owned t name then script_as First (one t.first own name object draft vocabularies formats)
    else script_as Second (other t.second own name object draft vocabularies formats)

abbrev pub both_waiting : {U V M N : Type 0} → (U → Waiting M) → (V → Waiting N) → Both U V → Waiting (Both M N)
both_waiting one other (First m) = waiting_as First (one m)
both_waiting one other (Second m) = waiting_as Second (other m)
