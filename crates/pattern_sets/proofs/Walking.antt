-- Where the forms of patterns lead, from where their parts do.
use Rattle.std.proofs.Common.{◌≡◌, ◌≤◌, ◌||◌, ◌&&◌, not, ◌+◌, ℕ, Bool, true, false, ap, refl, subst, sym, ◌∙◌, arith, nat_le, true≢false, List, length, Option}
use Rattle.std.proofs.lemmas.Bool.Decides.{nat_tests}
use Rattle.pattern_trees.specs.declared.tree.Edge.{Edge}
use Rattle.pattern_trees.specs.Patterns.{IsAt, Pattern, Empty, At, Then, Either, Look, Repeat, Leads, Matches, Iterates, IfWanted, IsFound}
use Rattle.pattern_sets.specs.Images.{IsImage, IsOne, Joined, Spreads, Steps, leads}
use Rattle.pattern_sets.proofs.Iterating.{iterates_add, iterates_back, iterates_part}
use Rattle.pattern_sets.proofs.Leading.{choice_image, image_map, joined_image, or_left, or_right}

pub empty_image : (forward : Bool) (text : List ℕ) (from : ℕ → Bool) → IsImage (leads forward Empty text) from from
empty_image true text from = record { sound = λ j h. (j, h, refl); complete = λ i j h e. subst (λ (x : ℕ). from x ≡ true) e h }
empty_image false text from = record { sound = λ j h. (j, h, refl); complete = λ i j h e. subst (λ (x : ℕ). from x ≡ true) (sym e) h }

pub edge_image : (forward : Bool) (edge : Edge) (text : List ℕ) (from to : ℕ → Bool) → IsImage (λ i j. IsAt edge text i × (i ≡ j)) from to → IsImage (leads forward (At edge) text) from to
edge_image true edge text from to image = image
edge_image false edge text from to image =
    image_map (λ i j. IsAt edge text i × (i ≡ j)) (λ i j. IsAt edge text j × (j ≡ i)) from to image
    (λ i j r. (subst (λ (x : ℕ). IsAt edge text x) r.1 r.0, sym r.1))
    (λ i j r. (subst (λ (x : ℕ). IsAt edge text x) r.1 r.0, sym r.1))

pub then_back : (a b : Pattern) (text : List ℕ) (from to : ℕ → Bool) → IsImage (Joined (leads false b text) (leads false a text)) from to → IsImage (leads false (Then a b) text) from to
then_back a b text from to image =
    image_map (Joined (leads false b text) (leads false a text)) (leads false (Then a b) text) from to image
    (λ i j r. (r.0, r.2, r.1)) (λ i j r. (r.0, r.2, r.1))

pub either_image : (forward : Bool) (a b : Pattern) (text : List ℕ) (from other left right to : ℕ → Bool) → ((k : ℕ) → other k ≡ from k) → IsImage (leads forward a text) from left → IsImage (leads forward b text) other right →
    ((k : ℕ) → to k ≡ (left k || right k)) → IsImage (leads forward (Either a b) text) from to
either_image true a b text from other left right to same first second union = choice_image (leads true a text) (leads true b text) from other left right to same first second union
either_image false a b text from other left right to same first second union = choice_image (leads false a text) (leads false b text) from other left right to same first second union

-- ---- lookaround

abbrev pub Sees : Bool → Pattern → List ℕ → ℕ → Type 0
Sees ahead p text i = (k : ℕ) × (k ≤ length text) × Leads ahead (λ x y. Matches p text x y) i k

pub le_of : (a b : ℕ) → nat_le a b ≡ true → a ≤ b
le_of a b h = grind (arith, nat_tests)

pub of_le : (a b : ℕ) → a ≤ b → nat_le a b ≡ true
of_le a b h = grind (arith, nat_tests)

-- what is found from all positions, read the other way, is where the body is seen
pub record IsSeen (ahead : Bool) (p : Pattern) (text : List ℕ) (found : ℕ → Bool) : Type 0 where
  pub yes : (i : ℕ) → found i ≡ true → Sees ahead p text i
  pub no : (i : ℕ) → found i ≡ false → ¬ (Sees ahead p text i)

pub seen : (ahead : Bool) (p : Pattern) (text : List ℕ) (all found : ℕ → Bool) → ((k : ℕ) → all k ≡ nat_le k (length text)) → IsImage (leads (not ahead) p text) all found → IsSeen ahead p text found
seen true p text all found every image = record {
  yes = λ i h. let s = image.sound i h in (s.0, le_of s.0 (length text) (sym (every s.0) ∙ s.1), s.2);
  no = λ i h s. true≢false (sym (image.complete s.0 i (every s.0 ∙ of_le s.0 (length text) s.1) s.2) ∙ h);
}
seen false p text all found every image = record {
  yes = λ i h. let s = image.sound i h in (s.0, le_of s.0 (length text) (sym (every s.0) ∙ s.1), s.2);
  no = λ i h s. true≢false (sym (image.complete s.0 i (every s.0 ∙ of_le s.0 (length text) s.1) s.2) ∙ h);
}

pub and_left : (a b : Bool) → (a && b) ≡ true → a ≡ true
and_left true b h = refl
and_left false b h = h

pub and_right : (a b : Bool) → (a && b) ≡ true → b ≡ true
and_right true b h = h
and_right false b h = absurd (true≢false (sym h))

pub and_both : (a b : Bool) → a ≡ true → b ≡ true → (a && b) ≡ true
and_both true b h k = k
and_both false b h k = h

not_true : (b : Bool) → not b ≡ true → b ≡ false
not_true true h = sym h
not_true false h = refl

-- the positions of a set where a test holds
pub kept_image : (P : ℕ → Type 0) (from test to : ℕ → Bool) → ((k : ℕ) → to k ≡ (from k && test k)) → ((k : ℕ) → test k ≡ true → P k) → ((k : ℕ) → P k → test k ≡ true) → IsImage (λ i j. P i × (i ≡ j)) from to
kept_image P from test to both holds back = record {
  sound = λ j h. let b = sym (both j) ∙ h in (j, and_left (from j) (test j) b, (holds j (and_right (from j) (test j) b), refl));
  complete = λ i j h r. subst (λ (x : ℕ). to x ≡ true) r.1 (both i ∙ and_both (from i) (test i) h (back i r.0));
}

turned : (P : ℕ → Type 0) (from to : ℕ → Bool) → IsImage (λ i j. P i × (i ≡ j)) from to → IsImage (λ i j. P j × (j ≡ i)) from to
turned P from to image =
    image_map (λ i j. P i × (i ≡ j)) (λ i j. P j × (j ≡ i)) from to image
    (λ i j r. (subst P r.1 r.0, sym r.1)) (λ i j r. (subst P r.1 r.0, sym r.1))

pub look_either_way : (forward ahead wanted : Bool) (p : Pattern) (text : List ℕ) (from to : ℕ → Bool) → IsImage (λ i j. IfWanted wanted (Sees ahead p text i) × (i ≡ j)) from to → IsImage (leads forward (Look ahead wanted p) text) from to
look_either_way true ahead wanted p text from to image = image
look_either_way false ahead wanted p text from to image = turned (λ i. IfWanted wanted (Sees ahead p text i)) from to image

decided : (found : ℕ → Bool) (k : ℕ) (P : Type 0) → (found k ≡ false → ¬ P) → P → found k ≡ true
decided found k P fails p = go (found k) refl
  where
    go : (b : Bool) → found k ≡ b → found k ≡ true
    go true e = e
    go false e = absurd (fails e p)

undecided : (found : ℕ → Bool) (k : ℕ) (P : Type 0) → (found k ≡ true → P) → ¬ P → not (found k) ≡ true
undecided found k P holds p = go (found k) refl
  where
    go : (b : Bool) → found k ≡ b → not (found k) ≡ true
    go true e = absurd (p (holds e))
    go false e = ap not e

pub look_wanted : (forward ahead : Bool) (p : Pattern) (text : List ℕ) (from all found to : ℕ → Bool) → ((k : ℕ) → all k ≡ nat_le k (length text)) → IsImage (leads (not ahead) p text) all found → ((k : ℕ) → to k ≡ (from k && found k)) →
    IsImage (leads forward (Look ahead true p) text) from to
look_wanted forward ahead p text from all found to every image both =
    let s = seen ahead p text all found every image in
    look_either_way forward ahead true p text from to
    (kept_image (Sees ahead p text) from found to both s.yes (λ k h. decided found k (Sees ahead p text k) (s.no k) h))

pub look_unwanted : (forward ahead : Bool) (p : Pattern) (text : List ℕ) (from all found to : ℕ → Bool) → ((k : ℕ) → all k ≡ nat_le k (length text)) → IsImage (leads (not ahead) p text) all found → ((k : ℕ) → to k ≡ (from k && not (found k))) →
    IsImage (leads forward (Look ahead false p) text) from to
look_unwanted forward ahead p text from all found to every image both =
    let s = seen ahead p text all found every image in
    look_either_way forward ahead false p text from to
    (kept_image (λ k. ¬ (Sees ahead p text k)) from (λ k. not (found k)) to both (λ k h. s.no k (not_true (found k) h)) (λ k h. undecided found k (Sees ahead p text k) (s.yes k) h))

-- ---- repetition

pub repeat_image : (forward : Bool) (least : ℕ) (more : Option ℕ) (p : Pattern) (text : List ℕ) (from mid to : ℕ → Bool) → IsImage (Iterates (leads forward p text) least) from mid → IsImage (Steps more (leads forward p text)) mid to →
    IsImage (leads forward (Repeat least more p) text) from to
repeat_image true least more p text from mid to first second =
    let R = λ (i j : ℕ). Matches p text i j in
    image_map (Joined (Iterates R least) (Steps more R)) (leads true (Repeat least more p) text) from to (joined_image (Iterates R least) (Steps more R) from mid to first second)
    (λ i j r. (r.2.0, r.2.1, iterates_add R least r.2.0 (least + r.2.0) i r.0 j refl r.1 r.2.2))
    (λ i j r. let s = iterates_part R least r.0 (least + r.0) i j refl r.2 in (s.0, s.1, (r.0, r.1, s.2)))
repeat_image false least more p text from mid to first second =
    let R = λ (i j : ℕ). Matches p text i j in
    let B = λ (i j : ℕ). Matches p text j i in
    image_map (Joined (Iterates B least) (Steps more B)) (leads false (Repeat least more p) text) from to (joined_image (Iterates B least) (Steps more B) from mid to first second)
    (λ i j r. (r.2.0, r.2.1, iterates_back R (least + r.2.0) i j (iterates_add B least r.2.0 (least + r.2.0) i r.0 j refl r.1 r.2.2)))
    (λ i j r. let s = iterates_part B least r.0 (least + r.0) i j refl (iterates_back B (least + r.0) j i r.2) in (s.0, s.1, (r.0, r.1, s.2)))

-- one round of a search, from what its three calls say
pub spreads_by : (R : ℕ → ℕ → Type 0) (all fresh led new next : ℕ → Bool) → IsImage R fresh led → ((k : ℕ) → next k ≡ (led k && not (all k))) → ((k : ℕ) → new k ≡ (all k || next k)) → Spreads R all fresh new next
spreads_by R all fresh led new next image less more = record {
  added = more;
  led = λ j h. image.sound j (and_left (led j) (not (all j)) (sym (less j) ∙ h));
  unknown = λ j h. not_true (all j) (and_right (led j) (not (all j)) (sym (less j) ∙ h));
  whole = λ i j h r. go j (image.complete i j h r) (all j) refl;
}
  where
    go : (j : ℕ) → led j ≡ true → (b : Bool) → all j ≡ b → new j ≡ true
    go j h true e = more j ∙ or_left (all j) (next j) e
    go j h false e = more j ∙ or_right (all j) (next j) (less j ∙ and_both (led j) (not (all j)) h (ap not e))

-- ---- the whole pattern

pub found_where : (p : Pattern) (text : List ℕ) (all found : ℕ → Bool) → ((k : ℕ) → all k ≡ nat_le k (length text)) → IsImage (leads true p text) all found → (j : ℕ) → found j ≡ true → IsFound p text
found_where p text all found every image j h = let s = image.sound j h in (s.0, j, le_of s.0 (length text) (sym (every s.0) ∙ s.1), s.2)

pub found_nowhere : (p : Pattern) (text : List ℕ) (all found : ℕ → Bool) → ((k : ℕ) → all k ≡ nat_le k (length text)) → IsImage (leads true p text) all found → ((j : ℕ) → found j ≡ false) → ¬ (IsFound p text)
found_nowhere p text all found every image none f = true≢false (sym (image.complete f.0 f.1 (every f.0 ∙ of_le f.0 (length text) f.2) f.3) ∙ none f.1)

-- ---- lookaround from one position, read the way that it looks

pub kept_all : (P : ℕ → Type 0) (from to : ℕ → Bool) → ((k : ℕ) → from k ≡ true → P k) → ((k : ℕ) → to k ≡ from k) → IsImage (λ i j. P i × (i ≡ j)) from to
kept_all P from to each same = record {
  sound = λ j h. let f = sym (same j) ∙ h in (j, f, (each j f, refl));
  complete = λ i j h r. subst (λ (x : ℕ). to x ≡ true) r.1 (same i ∙ h);
}

pub kept_none : (P : ℕ → Type 0) (from to : ℕ → Bool) → ((k : ℕ) → from k ≡ true → ¬ (P k)) → ((k : ℕ) → to k ≡ false) → IsImage (λ i j. P i × (i ≡ j)) from to
kept_none P from to each none = record {
  sound = λ j h. absurd (true≢false (sym h ∙ none j));
  complete = λ i j h r. absurd (each i h r.0);
}

-- a set of at most one position, where its pattern leads, and which of that is in the text
pub record Peeks (ahead : Bool) (p : Pattern) (text : List ℕ) (from led near : ℕ → Bool) : Type 0 where
  pub one : (x y : ℕ) → from x ≡ true → from y ≡ true → x ≡ y
  pub image : IsImage (leads ahead p text) from led
  pub inside : (k : ℕ) → near k ≡ (led k && nat_le k (length text))

sees_from : (ahead : Bool) (p : Pattern) (text : List ℕ) (from led near : ℕ → Bool) → Peeks ahead p text from led near → (k : ℕ) → near k ≡ true → (x : ℕ) → from x ≡ true → Sees ahead p text x
sees_from ahead p text from led near peeks k h x f =
    let b = sym (peeks.inside k) ∙ h in
    let s = peeks.image.sound k (and_left (led k) (nat_le k (length text)) b) in
    (k, le_of k (length text) (and_right (led k) (nat_le k (length text)) b), subst (λ (y : ℕ). leads ahead p text y k) (peeks.one s.0 x s.1 f) s.2)

blind_from : (ahead : Bool) (p : Pattern) (text : List ℕ) (from led near : ℕ → Bool) → Peeks ahead p text from led near → ((k : ℕ) → near k ≡ false) → (x : ℕ) → from x ≡ true → ¬ (Sees ahead p text x)
blind_from ahead p text from led near peeks none x f s =
    true≢false (sym (peeks.inside s.0 ∙ and_both (led s.0) (nat_le s.0 (length text)) (peeks.image.complete x s.0 f s.2) (of_le s.0 (length text) s.1)) ∙ none s.0)

pub peek_wanted_some : (forward ahead : Bool) (p : Pattern) (text : List ℕ) (from led near to : ℕ → Bool) → Peeks ahead p text from led near → (k : ℕ) → near k ≡ true → ((k : ℕ) → to k ≡ from k) → IsImage (leads forward (Look ahead true p) text) from to
peek_wanted_some forward ahead p text from led near to peeks k h same =
    look_either_way forward ahead true p text from to (kept_all (Sees ahead p text) from to (sees_from ahead p text from led near peeks k h) same)

pub peek_wanted_none : (forward ahead : Bool) (p : Pattern) (text : List ℕ) (from led near to : ℕ → Bool) → Peeks ahead p text from led near → ((k : ℕ) → near k ≡ false) → ((k : ℕ) → to k ≡ false) → IsImage (leads forward (Look ahead true p) text) from to
peek_wanted_none forward ahead p text from led near to peeks none empty =
    look_either_way forward ahead true p text from to (kept_none (Sees ahead p text) from to (blind_from ahead p text from led near peeks none) empty)

pub peek_unwanted_some : (forward ahead : Bool) (p : Pattern) (text : List ℕ) (from led near to : ℕ → Bool) → Peeks ahead p text from led near → (k : ℕ) → near k ≡ true → ((k : ℕ) → to k ≡ false) → IsImage (leads forward (Look ahead false p) text) from to
peek_unwanted_some forward ahead p text from led near to peeks k h empty =
    look_either_way forward ahead false p text from to (kept_none (λ x. ¬ (Sees ahead p text x)) from to (λ x f n. n (sees_from ahead p text from led near peeks k h x f)) empty)

pub peek_unwanted_none : (forward ahead : Bool) (p : Pattern) (text : List ℕ) (from led near to : ℕ → Bool) → Peeks ahead p text from led near → ((k : ℕ) → near k ≡ false) → ((k : ℕ) → to k ≡ from k) → IsImage (leads forward (Look ahead false p) text) from to
peek_unwanted_none forward ahead p text from led near to peeks none same =
    look_either_way forward ahead false p text from to (kept_all (λ x. ¬ (Sees ahead p text x)) from to (λ x f. blind_from ahead p text from led near peeks none x f) same)

pub peeking : (ahead : Bool) (p : Pattern) (text : List ℕ) (from led near all : ℕ → Bool) → IsOne from → IsImage (leads ahead p text) from led → ((k : ℕ) → near k ≡ (led k && all k)) → ((k : ℕ) → all k ≡ nat_le k (length text)) → Peeks ahead p text from led near
peeking ahead p text from led near all one image both every = record { one = one; image = image; inside = λ k. both k ∙ ap (λ (b : Bool). led k && b) (every k) }
