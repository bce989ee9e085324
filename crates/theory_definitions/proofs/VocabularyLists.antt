-- Which vocabularies a set contains.
use Rattle.std.proofs.Common.{ap, arith, subst, sym, ◌∙◌}
use Rattle.std.proofs.Math.Bool.{and-false, and-true, or-false}
use Rattle.std.proofs.lemmas.List.Folds.{list_any-append}
use Rattle.std.proofs.lemmas.Map.Lookups.{exact_bytes}
use Rattle.std.specs.Cmp.Lexicographic.{slice_cmp}
use Rattle.std.specs.Ordering.{nat_cmp}
use Rattle.std.specs.declared.cmp.Ordering.{Ordering}
use Rattle.std.specs.declared.cmp.Ordering.TheVariants.{Less, Equal, Greater}
use Rattle.std.specs.List.{list_all, list_any}
use Rattle.std.specs.Prelude.{Bool, List, length, suc, zero, ℕ, ◌<◌, None, Option, Some, [], bytes_eq, false, is_none, map, refl, true, ◌&&◌, ◌++◌, ◌||◌, ◌∷◌, ◌≡◌}
use Rattle.theory_definitions.specs.Instance.{Text}
use Rattle.theory_definitions.specs.Drafts.{Vocabularies, Vocabulary, applicator_vocabulary, content_vocabulary, core_vocabulary, custom_vocabulary, format_annotation_vocabulary, format_assertion_vocabulary, format_vocabulary, has_vocabulary, metadata_vocabulary, same_vocabulary, unevaluated_vocabulary, validation_vocabulary}
use Rattle.theory_definitions.specs.VocabularySets.{custom_of, flagged, listed, placed_by, placed_text, standard_vocabularies, uri_of}

-- The vocabulary is one of these, and its flag is set.
abbrev pub has_flag : Vocabulary → List Bool → Vocabularies → Bool
has_flag w [] vs = false
has_flag w (b ∷ bs) [] = false
has_flag w (b ∷ bs) (v ∷ vs) = (b && same_vocabulary w v) || has_flag w bs vs

has-flagged : (w : Vocabulary) (bs : List Bool) (vs : Vocabularies) → has_vocabulary (flagged bs vs) w ≡ has_flag w bs vs
has-flagged w [] vs = refl
has-flagged w (b ∷ bs) [] = refl
has-flagged w (true ∷ bs) (v ∷ vs) = ap (λ (x : Bool). same_vocabulary w v || x) (has-flagged w bs vs)
has-flagged w (false ∷ bs) (v ∷ vs) = has-flagged w bs vs

pub has-listed : (w : Vocabulary) (bs : List Bool) (uris : List Text) → has_vocabulary (listed bs uris) w ≡ (has_flag w bs standard_vocabularies || has_vocabulary (map custom_vocabulary uris) w)
unfolding listed
has-listed w bs uris = list_any-append (same_vocabulary w) (flagged bs standard_vocabularies) (map custom_vocabulary uris) ∙ ap (λ (x : Bool). x || has_vocabulary (map custom_vocabulary uris) w) (has-flagged w bs standard_vocabularies)

-- A vocabulary of the standard is none of the custom ones.
none_custom : (w : Vocabulary) → ((uri : Text) → same_vocabulary w (custom_vocabulary uri) ≡ false) → (uris : List Text) → has_vocabulary (map custom_vocabulary uris) w ≡ false
none_custom w h [] = refl
none_custom w h (uri ∷ uris) = rw (h uri) (none_custom w h uris)

pub has_custom : (uri : Text) (uris : List Text) → has_vocabulary (map custom_vocabulary uris) (custom_vocabulary uri) ≡ list_any (bytes_eq uri) uris
has_custom uri [] = refl
has_custom uri (other ∷ uris) = ap (λ (x : Bool). bytes_eq uri other || x) (has_custom uri uris)

abbrev pub flags : Bool → Bool → Bool → Bool → Bool → Bool → Bool → Bool → Bool → List Bool
flags a b d e f g h i j = a ∷ b ∷ d ∷ e ∷ f ∷ g ∷ h ∷ i ∷ j ∷ []

module _ (a b d e f g h i j : Bool) (uris : List Text) where
  pub has_core : has_vocabulary (listed (a ∷ b ∷ d ∷ e ∷ f ∷ g ∷ h ∷ i ∷ j ∷ []) uris) core_vocabulary ≡ a
  has_core = has-listed core_vocabulary (flags a b d e f g h i j) uris ∙ simp (and-false, and-true, or-false, none_custom core_vocabulary (λ uri. refl) uris)

  pub has_applicator : has_vocabulary (listed (a ∷ b ∷ d ∷ e ∷ f ∷ g ∷ h ∷ i ∷ j ∷ []) uris) applicator_vocabulary ≡ b
  has_applicator = has-listed applicator_vocabulary (flags a b d e f g h i j) uris ∙ simp (and-false, and-true, or-false, none_custom applicator_vocabulary (λ uri. refl) uris)

  pub has_unevaluated : has_vocabulary (listed (a ∷ b ∷ d ∷ e ∷ f ∷ g ∷ h ∷ i ∷ j ∷ []) uris) unevaluated_vocabulary ≡ d
  has_unevaluated = has-listed unevaluated_vocabulary (flags a b d e f g h i j) uris ∙ simp (and-false, and-true, or-false, none_custom unevaluated_vocabulary (λ uri. refl) uris)

  pub has_validation : has_vocabulary (listed (a ∷ b ∷ d ∷ e ∷ f ∷ g ∷ h ∷ i ∷ j ∷ []) uris) validation_vocabulary ≡ e
  has_validation = has-listed validation_vocabulary (flags a b d e f g h i j) uris ∙ simp (and-false, and-true, or-false, none_custom validation_vocabulary (λ uri. refl) uris)

  pub has_metadata : has_vocabulary (listed (a ∷ b ∷ d ∷ e ∷ f ∷ g ∷ h ∷ i ∷ j ∷ []) uris) metadata_vocabulary ≡ f
  has_metadata = has-listed metadata_vocabulary (flags a b d e f g h i j) uris ∙ simp (and-false, and-true, or-false, none_custom metadata_vocabulary (λ uri. refl) uris)

  pub has_format : has_vocabulary (listed (a ∷ b ∷ d ∷ e ∷ f ∷ g ∷ h ∷ i ∷ j ∷ []) uris) format_vocabulary ≡ g
  has_format = has-listed format_vocabulary (flags a b d e f g h i j) uris ∙ simp (and-false, and-true, or-false, none_custom format_vocabulary (λ uri. refl) uris)

  pub has_format_annotation : has_vocabulary (listed (a ∷ b ∷ d ∷ e ∷ f ∷ g ∷ h ∷ i ∷ j ∷ []) uris) format_annotation_vocabulary ≡ h
  has_format_annotation = has-listed format_annotation_vocabulary (flags a b d e f g h i j) uris ∙ simp (and-false, and-true, or-false, none_custom format_annotation_vocabulary (λ uri. refl) uris)

  pub has_format_assertion : has_vocabulary (listed (a ∷ b ∷ d ∷ e ∷ f ∷ g ∷ h ∷ i ∷ j ∷ []) uris) format_assertion_vocabulary ≡ i
  has_format_assertion = has-listed format_assertion_vocabulary (flags a b d e f g h i j) uris ∙ simp (and-false, and-true, or-false, none_custom format_assertion_vocabulary (λ uri. refl) uris)

  pub has_content : has_vocabulary (listed (a ∷ b ∷ d ∷ e ∷ f ∷ g ∷ h ∷ i ∷ j ∷ []) uris) content_vocabulary ≡ j
  has_content = has-listed content_vocabulary (flags a b d e f g h i j) uris ∙ simp (and-false, and-true, or-false, none_custom content_vocabulary (λ uri. refl) uris)

  pub has_other : (uri : Text) → has_vocabulary (listed (a ∷ b ∷ d ∷ e ∷ f ∷ g ∷ h ∷ i ∷ j ∷ []) uris) (custom_vocabulary uri) ≡ list_any (bytes_eq uri) uris
  has_other uri = has-listed (custom_vocabulary uri) (flags a b d e f g h i j) uris ∙ simp (and-false, has_custom uri uris)

pub none_listed : listed (false ∷ false ∷ false ∷ false ∷ false ∷ false ∷ false ∷ false ∷ false ∷ []) [] ≡ []
unfolding listed
none_listed = refl

custom_of-map : (uris : List Text) → custom_of (map custom_vocabulary uris) ≡ uris
custom_of-map [] = refl
custom_of-map (uri ∷ uris) = ap (λ (x : List Text). uri ∷ x) (custom_of-map uris)

both_true : (a b : Bool) → (a && b) ≡ true → (a ≡ true) × (b ≡ true)
both_true true b h = (refl, h)
both_true false b h = absurd (let f : ⊥ = cc in f)

none_is : (o : Option Text) → is_none o ≡ true → o ≡ None
none_is None h = refl
none_is (Some uri) h = absurd (let f : ⊥ = cc in f)

custom_of-cons : (v : Vocabulary) (vs : Vocabularies) → is_none (uri_of v) ≡ true → custom_of (v ∷ vs) ≡ custom_of vs
custom_of-cons v vs h = rw (none_is (uri_of v) h) refl

pub custom_of-flagged : (bs : List Bool) (vs rest : Vocabularies) → list_all (λ v. is_none (uri_of v)) vs ≡ true → custom_of (flagged bs vs ++ rest) ≡ custom_of rest
custom_of-flagged [] vs rest h = refl
custom_of-flagged (b ∷ bs) [] rest h = refl
custom_of-flagged (true ∷ bs) (v ∷ vs) rest h = let each = both_true (is_none (uri_of v)) (list_all (λ v'. is_none (uri_of v')) vs) h in custom_of-cons v (flagged bs vs ++ rest) each.0 ∙ custom_of-flagged bs vs rest each.1
custom_of-flagged (false ∷ bs) (v ∷ vs) rest h = custom_of-flagged bs vs rest (both_true (is_none (uri_of v)) (list_all (λ v'. is_none (uri_of v')) vs) h).1

pub custom_of-listed : (bs : List Bool) (uris : List Text) → custom_of (listed bs uris) ≡ uris
unfolding listed
custom_of-listed bs uris = custom_of-flagged bs standard_vocabularies (map custom_vocabulary uris) refl ∙ custom_of-map uris

-- ---- one more vocabulary

-- The flags with the one at an index set.
abbrev pub raised : ℕ → List Bool → List Bool
raised i [] = []
raised zero (b ∷ bs) = true ∷ bs
raised (suc i) (b ∷ bs) = b ∷ raised i bs

-- The vocabulary at an index.
abbrev pub vocabulary_at : ℕ → Vocabularies → Vocabulary
vocabulary_at i [] = core_vocabulary
vocabulary_at zero (v ∷ vs) = v
vocabulary_at (suc i) (v ∷ vs) = vocabulary_at i vs

raise_here : (s b r : Bool) → (s || r) ≡ (s || ((b && s) || r))
raise_here true b r = refl
raise_here false true r = refl
raise_here false false r = refl

past : (x t h : Bool) → (x || (t || h)) ≡ (t || (x || h))
past true true h = refl
past true false h = refl
past false t h = refl

or-assoc : (a b d : Bool) → ((a || b) || d) ≡ (a || (b || d))
or-assoc true b d = refl
or-assoc false b d = refl

flag-raised : (w : Vocabulary) (i : ℕ) (bs : List Bool) (vs : Vocabularies) → i < length bs → i < length vs → has_flag w (raised i bs) vs ≡ (same_vocabulary w (vocabulary_at i vs) || has_flag w bs vs)
flag-raised w i [] vs h k = absurd (omega arith)
flag-raised w i (b ∷ bs) [] h k = absurd (omega arith)
flag-raised w zero (b ∷ bs) (v ∷ vs) h k = raise_here (same_vocabulary w v) b (has_flag w bs vs)
flag-raised w (suc i) (b ∷ bs) (v ∷ vs) h k =
    let inner : has_flag w (raised i bs) vs ≡ (same_vocabulary w (vocabulary_at i vs) || has_flag w bs vs) = flag-raised w i bs vs (omega arith) (omega arith) in
    ap (λ (x : Bool). (b && same_vocabulary w v) || x) inner ∙ past (b && same_vocabulary w v) (same_vocabulary w (vocabulary_at i vs)) (has_flag w bs vs)

pub listed-raised : (w : Vocabulary) (i : ℕ) (bs : List Bool) (uris : List Text) → i < length bs → i < 9 → has_vocabulary (listed (raised i bs) uris) w ≡ (same_vocabulary w (vocabulary_at i standard_vocabularies) || has_vocabulary (listed bs uris) w)
listed-raised w i bs uris h k =
    has-listed w (raised i bs) uris
    ∙ ap (λ (x : Bool). x || has_vocabulary (map custom_vocabulary uris) w) (flag-raised w i bs standard_vocabularies h k)
    ∙ or-assoc (same_vocabulary w (vocabulary_at i standard_vocabularies)) (has_flag w bs standard_vocabularies) (has_vocabulary (map custom_vocabulary uris) w)
    ∙ ap (λ (x : Bool). same_vocabulary w (vocabulary_at i standard_vocabularies) || x) (sym (has-listed w bs uris))

two_first : (s t u : Bool) → (s || (t || u)) ≡ (t || (s || u))
two_first true true u = refl
two_first true false u = refl
two_first false t u = refl

pub equal_ordered : (a b : Text) → slice_cmp nat_cmp a b ≡ Equal → a ≡ b
equal_ordered a b h = exact_bytes a b h

twice : (s r : Bool) → (s || r) ≡ (s || (s || r))
twice true r = refl
twice false r = refl

-- Placing a text adds this text and no other.
placed-custom : (w : Vocabulary) (uri : Text) (uris : List Text) → has_vocabulary (map custom_vocabulary (placed_text uri uris)) w ≡ (same_vocabulary w (custom_vocabulary uri) || has_vocabulary (map custom_vocabulary uris) w)
placed-custom w uri [] = refl
placed-custom w uri (first ∷ rest) = go (slice_cmp nat_cmp uri first) refl (placed-custom w uri rest)
  where
    go : (o : Ordering) → slice_cmp nat_cmp uri first ≡ o
        → has_vocabulary (map custom_vocabulary (placed_text uri rest)) w ≡ (same_vocabulary w (custom_vocabulary uri) || has_vocabulary (map custom_vocabulary rest) w)
        → has_vocabulary (map custom_vocabulary (placed_by o uri first rest (placed_text uri rest))) w ≡ (same_vocabulary w (custom_vocabulary uri) || has_vocabulary (map custom_vocabulary (first ∷ rest)) w)
    go Less is below = refl
    go Equal is below = let e : uri ≡ first = equal_ordered uri first is in
        subst (λ (t : Text). has_vocabulary (map custom_vocabulary (first ∷ rest)) w ≡ (same_vocabulary w (custom_vocabulary t) || has_vocabulary (map custom_vocabulary (first ∷ rest)) w)) (sym e)
        (twice (same_vocabulary w (custom_vocabulary first)) (has_vocabulary (map custom_vocabulary rest) w))
    go Greater is below = ap (λ (x : Bool). same_vocabulary w (custom_vocabulary first) || x) below
        ∙ two_first (same_vocabulary w (custom_vocabulary first)) (same_vocabulary w (custom_vocabulary uri)) (has_vocabulary (map custom_vocabulary rest) w)

pub listed-placed : (w : Vocabulary) (bs : List Bool) (uris : List Text) (uri : Text) → has_vocabulary (listed bs (placed_text uri uris)) w ≡ (same_vocabulary w (custom_vocabulary uri) || has_vocabulary (listed bs uris) w)
listed-placed w bs uris uri =
    has-listed w bs (placed_text uri uris)
    ∙ ap (λ (x : Bool). has_flag w bs standard_vocabularies || x) (placed-custom w uri uris)
    ∙ two_first (has_flag w bs standard_vocabularies) (same_vocabulary w (custom_vocabulary uri)) (has_vocabulary (map custom_vocabulary uris) w)
    ∙ ap (λ (x : Bool). same_vocabulary w (custom_vocabulary uri) || x) (sym (has-listed w bs uris))
