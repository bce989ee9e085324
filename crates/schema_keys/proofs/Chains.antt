-- Keys are found by a hash: a number is added, and a key is searched from number to number.
use Rattle.std.proofs.Common.{◌≡◌, ◌≢◌, ℕ, suc, ◌<◌, ◌≤◌, Bool, true, false, cond, inl, inr, List, [], ◌∷◌, ◌++◌, length, map, nat_eq, refl, ap, sym, ◌∙◌, subst, arith, true≢false}
use Rattle.std.specs.Prelude.{Option, Some, None, option_map, slice_get}
use Rattle.std.proofs.lemmas.Bool.{eqb-true, eq-eqb}
use Rattle.std.proofs.lemmas.List.{length-map}
use Rattle.std.proofs.lemmas.Option.{slice_get-map, slice_get_within}
use Rattle.theory_definitions.specs.Instance.{Text}
use Rattle.theory_definitions.specs.Plan.{Key}
use Rattle.schema_keys.specs.KeyViews.{key_of}
use Rattle.schema_keys.specs.KeyHashes.{IsChained, IsLastBelow, hash_of, hash_of_parts}
use Rattle.schema_keys.specs.declared.key.SchemaKey.{SchemaKey}
use Rattle.schema_keys.proofs.Lists.{below_or, equal_or, get-append, get-end, get-pushed, length-more, some_is}

-- ---- a number is added

-- a number appended at the end changes nothing below
still_last : (hashes : List ℕ) (x h n : ℕ) (o : Option ℕ) → n ≤ length hashes → IsLastBelow hashes h n o → IsLastBelow (hashes ++ x ∷ []) h n o
still_last hashes x h n None within l = λ j below at. elim (get-pushed hashes x j h at) [ inl old ↦ l j below old | inr new ↦ absurd (let e = new.0 in omega arith) ]
still_last hashes x h n (Some m) within l = (
  l.0,
  get-append hashes (x ∷ []) m h l.1,
  λ j above below at. elim (get-pushed hashes x j h at) [ inl old ↦ l.2 j above below old | inr new ↦ absurd (let e = new.0 in omega arith) ],
)

-- nor does one with another hash at the end
passed_over : (hashes : List ℕ) (x h : ℕ) (o : Option ℕ) → x ≢ h → IsLastBelow hashes h (length hashes) o → IsLastBelow (hashes ++ x ∷ []) h (suc (length hashes)) o
passed_over hashes x h None other l = λ j below at. elim (get-pushed hashes x j h at) [ inl old ↦ l j (slice_get_within hashes j h old) old | inr new ↦ other new.1 ]
passed_over hashes x h (Some m) other l = (
  (let b = l.0 in omega arith),
  get-append hashes (x ∷ []) m h l.1,
  λ j above below at. elim (get-pushed hashes x j h at) [ inl old ↦ l.2 j above (slice_get_within hashes j h old) old | inr new ↦ other new.1 ],
)

new_last : (hashes : List ℕ) (h : ℕ) → IsLastBelow (hashes ++ h ∷ []) h (suc (length hashes)) (Some (length hashes))
new_last hashes h = (omega arith, get-end hashes h, λ j above below at. absurd (omega arith))

module _ (hashes : List ℕ) (earlier : List (Option ℕ)) (last last' : ℕ → Option ℕ) (x : ℕ) (c : IsChained hashes earlier last)
    (updates : (q : ℕ) → last' q ≡ cond (nat_eq x q) (Some (length hashes)) (last q)) where
  new_end : (h : ℕ) (b : Bool) → nat_eq x h ≡ b → IsLastBelow (hashes ++ x ∷ []) h (suc (length hashes)) (cond b (Some (length hashes)) (last h))
  new_end h true e = subst (λ q. IsLastBelow (hashes ++ x ∷ []) q (suc (length hashes)) (Some (length hashes))) (eqb-true x h e) (new_last hashes x)
  new_end h false e = passed_over hashes x h (last h) (λ same. true≢false (sym (eq-eqb x h same) ∙ e)) (c.ends h)

  pub chained_more : IsChained (hashes ++ x ∷ []) (earlier ++ last x ∷ []) last'
  chained_more = record {
    lengths = length-more earlier (last x) ∙ ap suc c.lengths ∙ sym (length-more hashes x);
    ends = λ h. subst (λ n. IsLastBelow (hashes ++ x ∷ []) h n (last' h)) (sym (length-more hashes x)) (subst (IsLastBelow (hashes ++ x ∷ []) h (suc (length hashes))) (sym (updates h)) (new_end h (nat_eq x h) refl));
    links = λ i h o at at'. elim (get-pushed hashes x i h at) [
      | inl old ↦ elim (get-pushed earlier (last x) i o at') [
        | inl old' ↦ let w = slice_get_within hashes i h old in still_last hashes x h i o (omega arith) (c.links i h o old old')
        | inr new' ↦ absurd (let w = slice_get_within hashes i h old in let e = new'.0 in let l = c.lengths in omega arith)
      ]
      | inr new ↦ elim (get-pushed earlier (last x) i o at') [
        | inl old' ↦ absurd (let w = slice_get_within earlier i o old' in let e = new.0 in let l = c.lengths in omega arith)
        | inr new' ↦ subst (λ q. IsLastBelow (hashes ++ x ∷ []) q i o) new.1 (subst (λ p. IsLastBelow (hashes ++ x ∷ []) x i p) new'.1 (subst (λ n. IsLastBelow (hashes ++ x ∷ []) x n (last x)) (sym new.0) (still_last hashes x x (length hashes) (last x) (omega arith) (c.ends x))))
      ]
    ];
  }

-- ---- a key is searched

module _ {S P : Type 0} (point : S → P) (input : S → List Text) (alike : (s t : S) → point s ≡ point t → input s ≡ input t) (ks : List (SchemaKey S)) (k : SchemaKey S) where
  -- equal keys have equal hashes
  same_hash : (a : SchemaKey S) → key_of point a ≡ key_of point k → hash_of input a ≡ hash_of input k
  same_hash a e =
      let parts : hash_of input a ≡ hash_of_parts k.place.document k.location k.resource_base (input a.state) = ap (λ (q : Key P). hash_of_parts q.target.place.document q.location q.base (input a.state)) e in
      let states : input a.state ≡ input k.state = alike a.state k.state (ap (λ (q : Key P). q.target.state) e) in
      parts ∙ ap (hash_of_parts k.place.document k.location k.resource_base) states

  hash_at : (j : ℕ) → slice_get (map (key_of point) ks) j ≡ Some (key_of point k) → slice_get (map (hash_of input) ks) j ≡ Some (hash_of input k)
  hash_at j e =
      let go : (o : Option (SchemaKey S)) → option_map (key_of point) o ≡ Some (key_of point k) → option_map (hash_of input) o ≡ Some (hash_of input k)
      = elim [ None ↦ λ h. absurd (let g : ⊥ = cc in g) | Some a ↦ λ h. ap Some (same_hash a (some_is (key_of point a) (key_of point k) h)) ] in
      slice_get-map (hash_of input) ks j ∙ go (slice_get ks j) (sym (slice_get-map (key_of point) ks j) ∙ e)

  -- the key is at no number above the next one
  pub record Seeks (next : Option ℕ) : Type 0 where
    pub bound : ℕ
    pub last : IsLastBelow (map (hash_of input) ks) (hash_of input k) bound next
    pub below : (j : ℕ) → slice_get (map (key_of point) ks) j ≡ Some (key_of point k) → j < bound

  pub seeks_within : (m : ℕ) → Seeks (Some m) → m < length ks
  seeks_within m s = let w = slice_get_within (map (hash_of input) ks) m (hash_of input k) s.last.1 in let l = length-map ks (λ (a : SchemaKey S). hash_of input a) in omega arith

  pub seeks_earlier : (earlier : List (Option ℕ)) (last : ℕ → Option ℕ) (m : ℕ) (o : Option ℕ) → IsChained (map (hash_of input) ks) earlier last → Seeks (Some m) → slice_get earlier m ≡ Some o
      → (slice_get (map (key_of point) ks) m ≡ Some (key_of point k) → ⊥) → Seeks o
  seeks_earlier earlier last m o c s at differs = record {
    bound = m;
    last = c.links m (hash_of input k) o s.last.1 at;
    below = λ j e. elim (equal_or j m) [
      | inl same ↦ absurd (differs (subst (λ i. slice_get (map (key_of point) ks) i ≡ Some (key_of point k)) same e))
      | inr other ↦ elim (below_or j m) [ inl h ↦ h | inr h ↦ absurd (s.last.2 j (omega (arith, other)) (s.below j e) (hash_at j e)) ]
    ];
  }

  pub seeks_none : Seeks None → (j : ℕ) → slice_get (map (key_of point) ks) j ≡ Some (key_of point k) → ⊥
  seeks_none s j e = s.last j (s.below j e) (hash_at j e)

-- how many numbers are left before the next one
abbrev pub steps_left : Option ℕ → ℕ
steps_left None = 0
steps_left (Some m) = suc m

pub falls : (hashes : List ℕ) (h m : ℕ) (o : Option ℕ) → IsLastBelow hashes h m o → steps_left o < steps_left (Some m)
falls hashes h m None l = omega arith
falls hashes h m (Some n) l = let b = l.0 in omega arith
