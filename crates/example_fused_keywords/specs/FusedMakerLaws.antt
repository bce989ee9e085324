-- The makers request only what lies strictly below the object, and end as they should.
use Rattle.std.proofs.Common.{◌∙◌, ap, refl, sym, zero, suc}
use Rattle.std.specs.Prelude.{Bool, List, None, Option, Some, [], bytes_eq, codes, false, if◌then◌else◌, is_some, option_map, true, ℕ, ◌≡◌, ◌∷◌, drop}
use Rattle.serde_json.specs.Data.{Data, Members}
use Rattle.serde_json.specs.Find.{get_member}
use Rattle.schema_reports.proofs.Found.{member_of-get_member}
use Rattle.theory_definitions.specs.Instance.{Place, Text}
use Rattle.theory_definitions.specs.Drafts.{Draft, Vocabularies}
use Rattle.theory_definitions.specs.Making.{Made, Making, Script, a_keyword, after_request, followed, nothing, refused, then_compile, then_end, then_pending, then_refer, then_reserve, compile, refer}
use Rattle.schema_traits.specs.MakerViews.{MakesRightly, begun, waits}
use Rattle.standard_basics.specs.BasicShape.{BasicShape, is_whole}
use Rattle.standard_basics.specs.Laws.{none_absorbed}
use Rattle.keyword_makers.specs.ByValue.{IsRightMember, makes_by_value}
use Rattle.standard_basics.specs.MakerLaws.{makes_rightly}
use Rattle.keyword_makers.specs.declared.by_value.MemberKeyword.TheVariants.{Nothing}
use Rattle.standard_basics.specs.Makers.{basic_script}
use Rattle.keyword_makers.specs.Making.{asks_for, waiting_in}
use Rattle.keyword_makers.specs.MakingLaws.{either_rightly}
use Rattle.example_fused_keywords.specs.FusedScripts.{are_known, fused_limit, fused_script, is_absorbed, least_in, least_keyword, least_made, limit_of, made_among, plain_script, script_among, script_by, waiting_among}
use Rattle.example_fused_keywords.specs.FusedShape.{FusedShape, absorbed_by, is_free, of_bench}

abbrev pub Rightly : Members → Script FusedShape → Type 0
Rightly = MakesRightly absorbed_by is_free

-- ---- the basic keywords

abbrev making_among : {A B : Type 0} → (A → B) → Making A → Making B
making_among f m = record { requests = m.requests; ends = made_among f m.ends }

followed_if : {A B : Type 0} (f : A → B) (b : Bool) (x y : Making A) (x' y' : Making B) → x' ≡ making_among f x → y' ≡ making_among f y
    → (if b then x' else y') ≡ making_among f (if b then x else y)
followed_if f true x y x' y' p q = p
followed_if f false x y x' y' p q = q

followed_among : {A B : Type 0} (f : A → B) (is_self : Text → Bool) (s : Script A) → followed is_self (script_among f s) ≡ making_among f (followed is_self s)
followed_among f is_self (then_compile path s) = ap (after_request (compile path)) (followed_among f is_self s)
followed_among f is_self (then_refer text s skipped) = ap (after_request (refer text))
    (followed_if f (is_self text) _ _ _ _ (followed_among f is_self skipped) (followed_among f is_self s))
followed_among f is_self (then_pending purpose free held) = followed_among f is_self free
followed_among f is_self (then_reserve purpose s) = followed_among f is_self s
followed_among f is_self (then_end m) = refl

made_rightly : (owner : Members) (m : Made BasicShape) → MakesRightly none_absorbed is_whole owner (then_end m) → Rightly owner (then_end (made_among of_bench m))
made_rightly owner (a_keyword m names) h = h
made_rightly owner nothing h = tt
made_rightly owner (refused told e) h = h

among_rightly : (owner : Members) (s : Script BasicShape) → MakesRightly none_absorbed is_whole owner s → Rightly owner (script_among of_bench s)
among_rightly owner (then_compile path s) h = (h.0, among_rightly owner s h.1)
among_rightly owner (then_refer text s skipped) h = (among_rightly owner s h.0, among_rightly owner skipped h.1)
among_rightly owner (then_pending purpose free held) h = (
  (λ is_self. followed_among of_bench is_self free ∙ (ap (making_among of_bench) (h.0 is_self) ∙ sym (followed_among of_bench is_self held))),
  among_rightly owner free h.1,
  among_rightly owner held h.2,
)
among_rightly owner (then_reserve purpose s) h = among_rightly owner s h
among_rightly owner (then_end m) h = made_rightly owner m h

asks_among : {A B : Type 0} (f : A → B) (ps : List Place) (m : Made A) → script_among f (asks_for ps m) ≡ asks_for ps (made_among f m)
asks_among f [] m = refl
asks_among f (p ∷ ps) m = ap (then_compile p) (asks_among f ps m)

-- a maker of the basic table, as one of this table
pub waits_among : {A B : Type 0} (f : A → B) (ps : List Place) (n : ℕ) (m : Option (Made A)) → waiting_in ps n (option_map (made_among f) m) ≡ waiting_among f (waiting_in ps n m)
waits_among f ps n None = refl
waits_among f ps zero (Some m) = ap begun (sym (asks_among f ps m))
waits_among f ps (suc n) (Some m) = ap (λ s. waits n s s) (sym (asks_among f (drop (suc n) ps) m))

-- ---- minItems

least_right : (d : Data) (o : Option ℕ) → IsRightMember absorbed_by is_free d (least_keyword o)
least_right d None = tt
least_right d (Some n) = (refl, λ h. refl)

pub least_rightly : (name : Text) (d : Data) → IsRightMember absorbed_by is_free d (least_made name d)
least_rightly name d = at (bytes_eq name (codes "minItems"))
  where
    at : (b : Bool) → IsRightMember absorbed_by is_free d (if b then least_keyword (least_in d) else Nothing)
    at true = least_right d (least_in d)
    at false = tt

-- ---- the three in one

one_of : (owner : Members) (b : Bool) (x y : Script FusedShape) → Rightly owner x → Rightly owner y → Rightly owner (if b then x else y)
one_of = either_rightly absorbed_by is_free

-- the object has what is absorbed
type_there : (t i l : Option Data) (n : ℕ) → limit_of t i l ≡ Some n → is_some t ≡ true
type_there None i l n h = cc
type_there (Some t) i l n h = refl

least_there : (t i l : Option Data) (n : ℕ) → limit_of t i l ≡ Some n → is_some l ≡ true
least_there None i l n h = cc
least_there (Some t) None l n h = cc
least_there (Some t) (Some i) None n h = cc
least_there (Some t) (Some i) (Some l) n h = refl

where_known : (b : Bool) (o : Option ℕ) (n : ℕ) → (if b then o else None) ≡ Some n → o ≡ Some n
where_known true o n h = h
where_known false o n h = cc

plain_rightly : (name : Text) (owner : Members) (draft : Draft) (vocabularies : Vocabularies) (formats : Bool) → Rightly owner (plain_script name owner draft vocabularies formats)
plain_rightly name owner draft vocabularies formats = one_of owner (bytes_eq name (codes "minItems")) _ _
    (makes_by_value absorbed_by is_free least_made least_rightly false name owner draft vocabularies formats)
    (among_rightly owner (basic_script false name owner draft vocabularies formats) (makes_rightly false name owner draft vocabularies formats))

fused_rightly : (name : Text) (owner : Members) (draft : Draft) (vocabularies : Vocabularies) (formats : Bool) (o : Option ℕ) → fused_limit draft vocabularies owner ≡ o
    → Rightly owner (script_by o name owner draft vocabularies formats)
fused_rightly name owner draft vocabularies formats None h = plain_rightly name owner draft vocabularies formats
fused_rightly name owner draft vocabularies formats (Some n) h =
    let limit : limit_of (get_member (codes "type") owner) (get_member (codes "items") owner) (get_member (codes "minItems") owner) ≡ Some n = where_known (are_known draft vocabularies) _ n h in
    one_of owner (is_absorbed name) _ _ tt (one_of owner (bytes_eq name (codes "items")) _ _
    (tt, (refl, (λ none. refl), (ap is_some (member_of-get_member (codes "type") owner) ∙ type_there _ _ _ n limit, (ap is_some (member_of-get_member (codes "minItems") owner) ∙ least_there _ _ _ n limit, tt))))
    (plain_rightly name owner draft vocabularies formats))

pub fused_makes_rightly : (own : Bool) (name : Text) (owner : Members) (draft : Draft) (vocabularies : Vocabularies) (formats : Bool) → Rightly owner (fused_script own name owner draft vocabularies formats)
fused_makes_rightly true name owner draft vocabularies formats = tt
fused_makes_rightly false name owner draft vocabularies formats = fused_rightly name owner draft vocabularies formats (fused_limit draft vocabularies owner) refl
