-- Lists by their elements and by their places.
use Rattle.std.proofs.Common.{◌≡◌, ◌≢◌, ◌∙◌, ℕ, zero, suc, ◌<◌, ◌≤◌, ◌⊎◌, inl, inr, List, [], ◌∷◌, ◌++◌, length, refl, sym, ap, append_assoc, subst, arith}
use Rattle.std.specs.Prelude.{Some, slice_get, slice_set, slice_index_or, Contains, All}
use Rattle.std.proofs.Math.Decide.{dec_lt}
use Rattle.schema_keys.specs.Compiling.{Each, In}

module _ {A : Type 0} where
  pub each_append : (P : A → Type 0) (xs ys : List A) → Each P xs → Each P ys → Each P (xs ++ ys)
  each_append P [] ys h k = k
  each_append P (x ∷ xs) ys h k = (h.0, each_append P xs ys h.1 k)

  pub each_first : (P : A → Type 0) (xs ys : List A) → Each P (xs ++ ys) → Each P xs
  each_first P [] ys h = tt
  each_first P (x ∷ xs) ys h = (h.0, each_first P xs ys h.1)

  pub each_rest : (P : A → Type 0) (xs ys : List A) → Each P (xs ++ ys) → Each P ys
  each_rest P [] ys h = h
  each_rest P (x ∷ xs) ys h = each_rest P xs ys h.1

  pub each_map : (P Q : A → Type 0) (xs : List A) → ((x : A) → P x → Q x) → Each P xs → Each Q xs
  each_map P Q [] f h = tt
  each_map P Q (x ∷ xs) f h = (f x h.0, each_map P Q xs f h.1)

  pub each_in : (P : A → Type 0) (xs : List A) (x : A) → Each P xs → In xs x → P x
  each_in P [] x h i = absurd i
  each_in P (y ∷ ys) x h (inl e) = subst P e h.0
  each_in P (y ∷ ys) x h (inr i) = each_in P ys x h.1 i

  pub in_left : (xs ys : List A) (x : A) → In xs x → In (xs ++ ys) x
  in_left [] ys x i = absurd i
  in_left (y ∷ xs) ys x (inl e) = inl e
  in_left (y ∷ xs) ys x (inr i) = inr (in_left xs ys x i)

  pub in_right : (xs ys : List A) (x : A) → In ys x → In (xs ++ ys) x
  in_right [] ys x i = i
  in_right (y ∷ xs) ys x i = inr (in_right xs ys x i)

  pub contains_of : (xs : List A) (x : A) → In xs x → Contains xs x
  contains_of [] x i = absurd i
  contains_of (y ∷ xs) x (inl e) = (0, omega arith, e)
  contains_of (y ∷ xs) x (inr i) = let c = contains_of xs x i in (suc c.0, (let l = c.1 in omega arith), c.2)

  in_at : (xs : List A) (k : ℕ) (x : A) → k < length xs → slice_index_or xs k x ≡ x → In xs x
  in_at [] k x h e = absurd (omega arith)
  in_at (y ∷ xs) zero x h e = inl e
  in_at (y ∷ xs) (suc k) x h e = inr (in_at xs k x (omega arith) e)

  pub in_of : (xs : List A) (x : A) → Contains xs x → In xs x
  in_of xs x c = in_at xs c.0 x c.1 c.2

  pub all_of : (P : A → Type 0) (xs : List A) → Each P xs → All P xs
  all_of P [] h = λ k d l. absurd (omega arith)
  all_of P (x ∷ xs) h = λ k d l. all_at P x xs h k d l where
    all_at : (P : A → Type 0) (x : A) (xs : List A) → Each P (x ∷ xs) → (k : ℕ) (d : A) → k < length (x ∷ xs) → P (slice_index_or (x ∷ xs) k d)
    all_at P x xs h zero d l = h.0
    all_at P x [] h (suc k) d l = absurd (omega arith)
    all_at P x (y ∷ ys) h (suc k) d l = all_at P y ys h.1 k d (omega arith)

  -- ---- by their places

  pub there : (xs : List A) (i : ℕ) → i < length xs → (x : A) × (slice_get xs i ≡ Some x)
  there [] i h = absurd (omega arith)
  there (x ∷ xs) zero h = (x, refl)
  there (x ∷ xs) (suc i) h = there xs i (omega arith)

  pub get-append : (xs ys : List A) (i : ℕ) (x : A) → slice_get xs i ≡ Some x → slice_get (xs ++ ys) i ≡ Some x
  get-append [] ys i x e = absurd cc
  get-append (a ∷ xs) ys zero x e = e
  get-append (a ∷ xs) ys (suc i) x e = get-append xs ys i x e

  pub get-end : (xs : List A) (a : A) → slice_get (xs ++ a ∷ []) (length xs) ≡ Some a
  get-end [] a = refl
  get-end (b ∷ xs) a = get-end xs a

  pub get-pushed : (xs : List A) (a : A) (i : ℕ) (x : A) → slice_get (xs ++ a ∷ []) i ≡ Some x
      → (slice_get xs i ≡ Some x) ⊎ ((i ≡ length xs) × (a ≡ x))
  get-pushed [] a zero x e = inr (refl, cc)
  get-pushed [] a (suc i) x e = absurd cc
  get-pushed (b ∷ xs) a zero x e = inl e
  get-pushed (b ∷ xs) a (suc i) x e = elim (get-pushed xs a i x e) [ inl h ↦ inl h | inr h ↦ inr (ap suc h.0, h.1) ]

  pub get-set_same : (xs : List A) (i : ℕ) (a : A) → i < length xs → slice_get (slice_set xs i a) i ≡ Some a
  get-set_same [] i a h = absurd (omega arith)
  get-set_same (x ∷ xs) zero a h = refl
  get-set_same (x ∷ xs) (suc i) a h = get-set_same xs i a (omega arith)

  pub get-set_other : (xs : List A) (i j : ℕ) (a : A) → j ≢ i → slice_get (slice_set xs i a) j ≡ slice_get xs j
  get-set_other [] i j a h = refl
  get-set_other (x ∷ xs) zero zero a h = absurd (h refl)
  get-set_other (x ∷ xs) zero (suc j) a h = refl
  get-set_other (x ∷ xs) (suc i) zero a h = refl
  get-set_other (x ∷ xs) (suc i) (suc j) a h = get-set_other xs i j a (λ e. h (ap suc e))

  pub set-length : (xs : List A) (i : ℕ) (a : A) → length (slice_set xs i a) ≡ length xs
  set-length [] i a = refl
  set-length (x ∷ xs) zero a = refl
  set-length (x ∷ xs) (suc i) a = ap suc (set-length xs i a)

  pub length-more : (xs : List A) (a : A) → length (xs ++ a ∷ []) ≡ suc (length xs)
  length-more [] a = refl
  length-more (x ∷ xs) a = ap suc (length-more xs a)

  pub longer : (xs ys : List A) → length xs ≤ length (xs ++ ys)
  longer [] ys = omega arith
  longer (x ∷ xs) ys = let r = longer xs ys in omega arith

pub below_or : (i n : ℕ) → (i < n) ⊎ (n ≤ i)
below_or i n = elim (dec_lt i n) [ yes h ↦ inl h | no h ↦ inr (omega arith) ]

pub equal_or : (i n : ℕ) → (i ≡ n) ⊎ (i ≢ n)
equal_or i n = elim (dec_lt i n) [ yes h ↦ inr (λ e. omega arith) | no h ↦ elim (dec_lt n i) [ yes h' ↦ inr (λ e. omega arith) | no h' ↦ inl (omega arith) ] ]

pub some_is : {A : Type 0} (x y : A) → Some x ≡ Some y → x ≡ y
some_is x y e = cc

-- what was gathered with the next ones, and what is left after them, are the whole
pub turned : {A : Type 0} (old new x rest next whole : List A) → old ++ rest ≡ whole → rest ≡ x ++ next → new ≡ old ++ x → new ++ next ≡ whole
turned old new x rest next whole so_far one_more added = ap (λ ys. ys ++ next) added ∙ append_assoc old x next ∙ ap (λ ys. old ++ ys) (sym one_more) ∙ so_far
