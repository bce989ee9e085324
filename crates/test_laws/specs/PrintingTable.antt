-- A table that refuses the value of each member, with the value's text; the text is not covered if
-- the value contains a fraction.
use Rattle.std.proofs.Common.{refl, ap, sym, ◌∙◌}
use Rattle.std.specs.Prelude.{Bool, List, None, Option, Some, [], false, not, string_bytes, true, ◌≡◌, ◌||◌}
use Rattle.std.specs.Ordering.{match_ordering, nat_cmp}
use Rattle.std.specs.Cmp.Lexicographic.{slice_cmp}
use Rattle.std.specs.declared.cmp.Ordering.{Ordering}
use Rattle.std.specs.declared.cmp.Ordering.TheVariants.{Equal, Greater, Less}
use Rattle.serde_json.specs.Data.{Data, Members, member, no_members}
use Rattle.serde_json.specs.Find.{get_member}
use Rattle.serde_json.specs.View.{view}
use Rattle.serde_json.specs.Written.{compact_text, has_float, members_have_float}
use Rattle.theory_definitions.specs.Instance.{Text}
use Rattle.theory_definitions.specs.Drafts.{Draft, Vocabularies}
use Rattle.theory_definitions.specs.Making.{Made, Script, nothing, refused, then_end}
use Rattle.theory_definitions.specs.Reports.{OwnedError, told_error}
use Rattle.schema_traits.specs.MakerViews.{IsMade, MakesRightly}
use Rattle.test_laws.specs.declared.printing_table.PrintingMaker.{PrintingMaker}
use Rattle.test_laws.specs.declared.printing_table.PrintingMaker.TheVariants as maker
use Rattle.schema_reports.specs.ReportViews.{owned_error_of}
use Rattle.schema_reports.specs.declared.reports.OwnedError.{OwnedError as OwnedErrorOfCall}

-- the error shows the value, and names the member
abbrev pub printed_error : Text → Data → OwnedError
printed_error name d = record { instance = d; instance_path = []; schema_path = []; evaluation_path = []; absolute = None; name = name; text = compact_text d }

-- the member that is refused: a name and its value, if there is one
pub record Member : Type 0 where
  pub name : Text
  pub value : Data

abbrev pub refuses_value : Text → Option Data → Option Member
refuses_value name None = None
refuses_value name (Some d) = Some (record { name = name; value = d })

abbrev pub made_of : {K : Type 0} → Option Member → Made K
made_of None = nothing
made_of (Some m) = refused (not (has_float m.value)) (printed_error m.name m.value)

abbrev pub printing_script : {K : Type 0} → Bool → Text → Members → Draft → Vocabularies → Bool → Script K
printing_script own name owner draft vocabularies formats = then_end (made_of (refuses_value name (get_member name owner)))

abbrev pub ending_of : PrintingMaker → Option Member
ending_of (maker.Refuses name value) = Some (record { name = string_bytes name; value = view value })
ending_of maker.Nothing = None

-- errors that differ at most in a text that is not covered
pub told_alike : (fraction : Bool) (a b : OwnedError) → told_error false a ≡ told_error false b → (fraction ≡ false → a.text ≡ b.text) → told_error (not fraction) a ≡ told_error (not fraction) b
told_alike true a b h same = h
told_alike false a b h same = ap (λ (e : OwnedError). record e { text = a.text }) h ∙ ap (λ (t : Text). record b { text = t }) (same refl)

-- a value of an object without fractions contains none
or_left : (a b : Bool) → (a || b) ≡ false → a ≡ false
or_left true b h = cc
or_left false b h = refl

or_right : (a b : Bool) → (a || b) ≡ false → b ≡ false
or_right true b h = cc
or_right false b h = h

member_whole : (k : Text) (ms : Members) (d : Data) → get_member k ms ≡ Some d → members_have_float ms ≡ false → has_float d ≡ false
member_whole k no_members d e h = cc
member_whole k (member l c ms) d e h = first (slice_cmp nat_cmp k l) (λ q. member_whole k ms d q (or_right (has_float c) _ h)) e
  where
    first : (o : Ordering) → (get_member k ms ≡ Some d → has_float d ≡ false) → match_ordering o (get_member k ms) (Some c) (get_member k ms) ≡ Some d → has_float d ≡ false
    first Less later e = later e
    first Equal later e = let same : c ≡ d = cc in ap has_float (sym same) ∙ or_left (has_float c) _ h
    first Greater later e = later e

module _ {K : Type 0} (absorbed : K → List Text) (is_whole : K → Bool) where
  made_rightly : (owner : Members) (name : Text) (o : Option Data) → get_member name owner ≡ o → IsMade absorbed is_whole owner (made_of (refuses_value name o))
  made_rightly owner name None here = tt
  made_rightly owner name (Some d) here = λ none. ap not (member_whole name owner d here none)

  pub prints_rightly : (own : Bool) (name : Text) (owner : Members) (draft : Draft) (vocabularies : Vocabularies) (formats : Bool)
      → MakesRightly absorbed is_whole owner (printing_script own name owner draft vocabularies formats)
  prints_rightly own name owner draft vocabularies formats = made_rightly owner name (get_member name owner) refl

-- ---- the error as the code makes it

-- apart from its text
abbrev pub IsPrinted : Text → Data → OwnedErrorOfCall → Type 0
IsPrinted name d e = told_error false (owned_error_of e) ≡ told_error false (printed_error name d)

-- with its text, if the value contains no fraction
abbrev pub PrintsValue : Text → Data → OwnedErrorOfCall → Type 0
PrintsValue name d e = told_error (not (has_float d)) (owned_error_of e) ≡ told_error (not (has_float d)) (printed_error name d)
