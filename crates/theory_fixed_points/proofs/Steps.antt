-- A pair is begun, refused, assumed or made final: what is found is still found by stages, it
-- grows, and the pair says the answer that it got.
use Rattle.std.proofs.Common.{◌≡◌, ◌∙◌, ℕ, ◌+◌, ◌<◌, ◌≤◌, ◌++◌, ◌||◌, ◌&&◌, not, Bool, true, false, [], length, refl, sym, subst, ap, arith, true≢false, inl, inr}
use Rattle.std.specs.Prelude.{None, Option, Some, if◌then◌else◌}
use Rattle.std.proofs.lemmas.Bool.{and_parts, false_from_ne_true, or_left, or_right}
use Rattle.std.proofs.lemmas.List.{append-nil}
use Rattle.theory_definitions.specs.Instance.{Place}
use Rattle.theory_definitions.specs.Guarded.{NodeEdge}
use Rattle.theory_definitions.proofs.Products.{both_true, in_either}
use Rattle.theory_fixed_points.specs.Under.{EdgeAnswers, PairSet, Solving, IsSolvable, under_by}
use Rattle.theory_fixed_points.specs.Found.{Found, Grows, NoneAt, NoneDeeper, after_no, after_yes, after_yes_alone, after_yes_free, entered, is_this, with_pair}
use Rattle.theory_fixed_points.specs.Stages.{Fits, FitsStage, IsStaged, PairTells, Stages, Tells, for_now}
use Rattle.theory_fixed_points.proofs.Under.{under_same}
use Rattle.theory_fixed_points.proofs.Pairs.{no_longer, of_this, this_place, this_self, with_cases, with_others, with_self}
use Rattle.theory_fixed_points.proofs.Between.{assumed_unknown, busy_unknown, lean_less, now_assumed, now_busy, now_cases, tells_known, tells_now, with_now, with_now_fits}

-- ---- by a test

pub if_true : {A : Type 0} (b : Bool) (x y : A) → b ≡ true → (if b then x else y) ≡ x
if_true b x y is = ap (λ c. if c then x else y) is

pub if_false : {A : Type 0} (b : Bool) (x y : A) → b ≡ false → (if b then x else y) ≡ y
if_false b x y is = ap (λ c. if c then x else y) is

pub by_test : {P : Type 0} (b : Bool) → (b ≡ true → P) → (b ≡ false → P) → P
by_test true f g = f refl
by_test false f g = g refl

some_none : {P : Type 0} (o : Option Bool) (v : Bool) → o ≡ Some v → o ≡ None → P
some_none o v a b = absurd (let f : ⊥ = let both : Some v ≡ None = sym a ∙ b in cc both in f)

same_value : (o : Option Bool) (u v : Bool) → o ≡ Some u → o ≡ Some v → u ≡ v
same_value o u v a b = let both : Some u ≡ Some v = sym a ∙ b in cc both

-- ---- some pairs become known in a new stage

module _ {K R : Type 0} (w : Solving K R) (f : Found) (staged : IsStaged w f) (fresh : PairSet) (value : Bool)
    (unknown : (j : ℕ) (q : Place) → fresh j q ≡ true → f.known j q ≡ None) where
  abbrev more_known : ℕ → Place → Option Bool
  more_known j q = if fresh j q then Some value else f.known j q

  pub not_fresh : (j : ℕ) (q : Place) (v : Bool) → f.known j q ≡ Some v → fresh j q ≡ false
  not_fresh j q v is = false_from_ne_true (fresh j q) (λ new. some_none (f.known j q) v is (unknown j q new))

  pub known_still : (j : ℕ) (q : Place) (v : Bool) → f.known j q ≡ Some v → more_known j q ≡ Some v
  known_still j q v is = if_false (fresh j q) (Some value) (f.known j q) (not_fresh j q v is) ∙ is

  new_known : (j : ℕ) (q : Place) → fresh j q ≡ true → more_known j q ≡ Some value
  new_known j q is = if_true (fresh j q) (Some value) (f.known j q) is

  was_known : (j : ℕ) (q : Place) (v : Bool) → fresh j q ≡ false → more_known j q ≡ Some v → f.known j q ≡ Some v
  was_known j q v other is = sym (if_false (fresh j q) (Some value) (f.known j q) other) ∙ is

  -- Answers that fit what is known afterwards fit what was known before.
  known_fits : (g : Found) (l k : Bool) (answers : EdgeAnswers) → ((j : ℕ) (q : Place) (v : Bool) → g.known j q ≡ Some v → more_known j q ≡ Some v)
      → (l ≡ true → (e : NodeEdge) (q : Place) → for_now g e.node q ≡ true → answers e q ≡ true)
      → (h : Found) → ((j : ℕ) (q : Place) → h.known j q ≡ more_known j q) → Fits h k answers → Fits g l answers
  known_fits g l k answers kept leaning h same fits = record {
    alike = fits.alike;
    known = λ e q v is. fits.known e q v (same e.node q ∙ kept e.node q v is);
    leaning = leaning;
  }

  module _ (inside : (j : ℕ) (q : Place) → fresh j q ≡ true → j < w.count)
      (tells : (j : ℕ) (q : Place) → fresh j q ≡ true → (answers : EdgeAnswers) → Fits f false answers
      → (value ≡ true → (e : NodeEdge) (r : Place) → fresh e.node r ≡ true → answers e r ≡ true) → under_by w answers j q ≡ value) where
    old : Stages w f.known
    old = staged.stages

    more_stage : ℕ → Place → ℕ
    more_stage j q = if fresh j q then old.next else old.stage j q

    old_stage : (j : ℕ) (q : Place) (v : Bool) → f.known j q ≡ Some v → more_stage j q ≡ old.stage j q
    unfolding more_stage
    old_stage j q v is = if_false (fresh j q) old.next (old.stage j q) (not_fresh j q v is)

    new_stage : (j : ℕ) (q : Place) → fresh j q ≡ true → more_stage j q ≡ old.next
    unfolding more_stage
    new_stage j q is = if_true (fresh j q) old.next (old.stage j q) is

    -- Answers that fit an old stage, and answers that fit the new one.
    at_old : (now : ℕ) (asked : Bool) (answers : EdgeAnswers) → FitsStage more_known more_stage now asked answers → FitsStage f.known old.stage now asked answers
    at_old now asked answers fits = record {
      alike = fits.alike;
      before = λ e q v is early. fits.before e q v (known_still e.node q v is) (subst (λ n. n < now) (sym (old_stage e.node q v is)) early);
      same = λ is e q known at. fits.same is e q (known_still e.node q true known) (old_stage e.node q true known ∙ at);
    }

    at_new : (answers : EdgeAnswers) → FitsStage more_known more_stage old.next value answers → Fits f false answers
    at_new answers fits = record {
      alike = fits.alike;
      known = λ e q v is. fits.before e q v (known_still e.node q v is) (subst (λ n. n < old.next) (sym (old_stage e.node q v is)) (old.before e.node q v is));
      leaning = λ is. absurd (true≢false (sym is));
    }

    new_yes : (answers : EdgeAnswers) → FitsStage more_known more_stage old.next value answers → value ≡ true → (e : NodeEdge) (q : Place) → fresh e.node q ≡ true → answers e q ≡ true
    new_yes answers fits is e q new = fits.same is e q (new_known e.node q new ∙ ap Some is) (new_stage e.node q new)

    pub more_stages : Stages w more_known
    more_stages = record {
      next = old.next + 1;
      stage = more_stage;
      before = λ j q v is. by_test (fresh j q)
          (λ new. let at = new_stage j q new in omega (arith, at))
          (λ other. let was = was_known j q v other is in let at = old_stage j q v was in let early = old.before j q v was in omega (arith, at, early));
      inside = λ j q v is. by_test (fresh j q) (inside j q) (λ other. old.inside j q v (was_known j q v other is));
      rests = λ j q v is answers fits. by_test (fresh j q)
          (λ new.
          let says : value ≡ v = same_value (more_known j q) value v (new_known j q new) is in
          let here : FitsStage more_known more_stage old.next value answers = subst (λ y. FitsStage more_known more_stage old.next y answers) (sym says) (subst (λ n. FitsStage more_known more_stage n v answers) (new_stage j q new) fits) in
          tells j q new answers (at_new answers here) (new_yes answers here) ∙ says)
          (λ other.
          let was = was_known j q v other is in
          old.rests j q v was answers (at_old (old.stage j q) v answers (subst (λ n. FitsStage more_known more_stage n v answers) (old_stage j q v was) fits)));
    }

module _ {K R : Type 0} (w : Solving K R) (solvable : IsSolvable w) where
  -- ---- a pair is begun

  pub entered_sound : (f : Found) (i : ℕ) (p : Place) → IsStaged w f → f.known i p ≡ None → f.assumed i p ≡ false → IsStaged w (entered f i p)
  entered_sound f i p staged unknown free = record {
    apart = λ j q. in_either (with_pair f.busy i p j q) (f.assumed j q)
        (with_cases f.busy i p j q
        (λ is. of_this (λ k r. f.known k r ≡ None) i p j q is unknown)
        (λ is. busy_unknown w f staged j q is))
        (λ is. assumed_unknown w f staged j q is);
    once = λ j q. with_cases f.busy i p j q (λ this. of_this (λ k r. f.assumed k r ≡ false) i p j q this free) (staged.once j q);
    placed = λ j q is. let other = staged.placed j q is in (other.0, with_others f.busy i p other.0 q other.1);
    within = staged.within;
    held = λ j q is answers fits. staged.held j q is answers (record {
      alike = fits.alike;
      known = λ e r v. fits.known e r v;
      leaning = λ yes e r. now_cases f e.node r
          (λ now. fits.leaning yes e r (now_busy (entered f i p) e.node r (with_others f.busy i p e.node r now)))
          (λ now. fits.leaning yes e r (now_assumed (entered f i p) e.node r now));
    });
    stages = staged.stages;
  }

  module _ (old f : Found) (i : ℕ) (p : Place) (l : i < w.count) (before : IsStaged w old) (staged : IsStaged w f) (grew : Grows p (entered old i p) f) where
    pub in_progress : f.busy i p ≡ true
    in_progress = grew.busy i p ∙ with_self old.busy i p

    pub unknown : f.known i p ≡ None
    unknown = busy_unknown w f staged i p in_progress

    this_unknown : (j : ℕ) (q : Place) → is_this i p j q ≡ true → f.known j q ≡ None
    this_unknown j q this = of_this (λ k r. f.known k r ≡ None) i p j q this unknown

    this_inside : (j : ℕ) (q : Place) → is_this i p j q ≡ true → j < w.count
    this_inside j q this = of_this (λ k r. k < w.count) i p j q this l

    -- A known verdict of another pair is as before.
    others_unknown : (v : Bool) (j : ℕ) (q : Place) → is_this i p j q ≡ false → f.known j q ≡ None → (if is_this i p j q then Some v else f.known j q) ≡ None
    others_unknown v j q other is = if_false (is_this i p j q) (Some v) (f.known j q) other ∙ is

    -- A pair that was in progress or assumed before is not this one, which was neither.
    not_this : (is_new : for_now old i p ≡ false) (j : ℕ) (q : Place) → for_now old j q ≡ true → is_this i p j q ≡ false
    not_this is_new j q now = false_from_ne_true (is_this i p j q) (λ this. true≢false (sym now ∙ of_this (λ k r. for_now old k r ≡ false) i p j q this is_new))

    old_now : (j : ℕ) (q : Place) → for_now old j q ≡ true → f.known j q ≡ None
    old_now j q = now_cases old j q
        (λ now. busy_unknown w f staged j q (grew.busy j q ∙ with_others old.busy i p j q now))
        (λ now. assumed_unknown w f staged j q (grew.assumed j q now))

    still_busy : (j : ℕ) (q : Place) → old.busy j q ≡ true → f.busy j q ≡ true
    still_busy j q now = grew.busy j q ∙ with_others old.busy i p j q now

    -- If another pair is in progress at this place, some pair is still in progress at the place of
    -- each assumed pair.
    placed_still : (k : ℕ) → old.busy k p ≡ true → (j : ℕ) (q : Place) → f.assumed j q ≡ true → (m : ℕ) × (old.busy m q ≡ true)
    placed_still k beside j q now =
        let other = staged.placed j q now in
        with_cases old.busy i p other.0 q
        (λ this. (k, subst (λ r. old.busy k r ≡ true) (this_place i p other.0 q this) beside))
        (λ was. (other.0, was))
        (sym (grew.busy other.0 q) ∙ other.1)

    -- ---- after a no

    abbrev pub no : Found
    no = after_no old f i p

    pub no_grows : Grows p old no
    no_grows = record {
      busy = λ j q. refl;
      known = λ j q v is. known_still w f staged (is_this i p) false this_unknown j q v (grew.known j q v is);
      assumed = λ j q is. is;
      here = λ j q is. inl is;
    }

    pub no_says : (leans : Bool) → PairTells no i p false leans
    no_says leans = tells_known no i p false leans (if_true (is_this i p i p) _ _ (this_self i p))

    pub no_sound : for_now old i p ≡ false → (leans : Bool) → Tells w f i p false leans → IsStaged w no
    no_sound is_new leans tells = record {
      apart = λ j q is. others_unknown false j q (not_this is_new j q is) (old_now j q is);
      once = before.once;
      placed = before.placed;
      within = before.within;
      held = λ j q is answers fits. before.held j q is answers
          (known_fits w f staged (is_this i p) false this_unknown old true true answers (λ m r v was. known_still w f staged (is_this i p) false this_unknown m r v (grew.known m r v was)) (λ yes e r now. fits.leaning yes e r now) no (λ m r. refl) fits);
      stages = more_stages w f staged (is_this i p) false this_unknown this_inside (λ j q this answers fits yes. of_this (λ m r. under_by w answers m r ≡ false) i p j q this (tells answers fits));
    }

    -- ---- after a yes that depends on no provisional answer

    abbrev pub free : Found
    free = after_yes_free old f i p

    pub free_grows : Grows p old free
    free_grows = record {
      busy = λ j q. refl;
      known = λ j q v is. known_still w f staged (is_this i p) true this_unknown j q v (grew.known j q v is);
      assumed = λ j q is. grew.assumed j q is;
      here = λ j q is. grew.here j q is;
    }

    pub free_says : (leans : Bool) → PairTells free i p true leans
    free_says leans = tells_known free i p true leans (if_true (is_this i p i p) _ _ (this_self i p))

    -- If another pair is in progress at this place.
    pub free_sound : for_now old i p ≡ false → (k : ℕ) → old.busy k p ≡ true → Tells w f i p true false → IsStaged w free
    free_sound is_new k beside tells = record {
      apart = λ j q. in_either (old.busy j q) (f.assumed j q)
          (λ now. others_unknown true j q (not_this is_new j q (now_busy old j q now)) (old_now j q (now_busy old j q now)))
          (λ now. others_unknown true j q (false_from_ne_true (is_this i p j q) (λ this. true≢false (sym now ∙ of_this (λ m r. f.assumed m r ≡ false) i p j q this (staged.once i p in_progress)))) (assumed_unknown w f staged j q now));
      once = λ j q now. staged.once j q (still_busy j q now);
      placed = λ j q now. placed_still k beside j q now;
      within = staged.within;
      held = λ j q is answers fits. staged.held j q is answers
          (known_fits w f staged (is_this i p) true this_unknown f true true answers (λ m r v was. known_still w f staged (is_this i p) true this_unknown m r v was)
          (λ yes e r. now_cases f e.node r
          (λ now. with_cases old.busy i p e.node r
          (λ this. fits.known e r true (if_true (is_this i p e.node r) (Some true) (f.known e.node r) this))
          (λ was. fits.leaning yes e r (now_busy free e.node r was))
          (sym (grew.busy e.node r) ∙ now))
          (λ now. fits.leaning yes e r (now_assumed free e.node r now)))
          free (λ m r. refl) fits);
      stages = more_stages w f staged (is_this i p) true this_unknown this_inside (λ j q this answers fits yes. of_this (λ m r. under_by w answers m r ≡ true) i p j q this (tells answers fits));
    }

    -- ---- after a provisional yes, if another pair is in progress at this place

    abbrev pub assumes : Found
    assumes = after_yes old f i p

    pub assumes_grows : Grows p old assumes
    assumes_grows = record {
      busy = λ j q. refl;
      known = λ j q v is. grew.known j q v is;
      assumed = λ j q is. with_others f.assumed i p j q (grew.assumed j q is);
      here = λ j q. with_cases f.assumed i p j q
          (λ this. inr ([], sym (this_place i p j q this) ∙ sym (append-nil p)))
          (λ is. grew.here j q is);
    }

    pub assumes_says : PairTells assumes i p true true
    assumes_says = tells_now assumes i p (now_assumed assumes i p (with_self f.assumed i p))

    assumes_fits : (l : Bool) (answers : EdgeAnswers) → Fits assumes true answers → Fits f l answers
    assumes_fits l answers fits = record {
      alike = fits.alike;
      known = λ e q v. fits.known e q v;
      leaning = λ is e q. now_cases f e.node q
          (λ now. with_cases old.busy i p e.node q
          (λ this. fits.leaning refl e q (now_assumed assumes e.node q (or_left _ _ this)))
          (λ was. fits.leaning refl e q (now_busy assumes e.node q was))
          (sym (grew.busy e.node q) ∙ now))
          (λ now. fits.leaning refl e q (now_assumed assumes e.node q (with_others f.assumed i p e.node q now)));
    }

    pub assumes_sound : for_now old i p ≡ false → (leans : Bool) → Tells w f i p true leans → (k : ℕ) → old.busy k p ≡ true → IsStaged w assumes
    assumes_sound is_new leans tells k beside = record {
      apart = λ j q. in_either (old.busy j q) (with_pair f.assumed i p j q)
          (λ now. busy_unknown w f staged j q (grew.busy j q ∙ with_others old.busy i p j q now))
          (with_cases f.assumed i p j q (this_unknown j q) (λ now. assumed_unknown w f staged j q now));
      once = λ j q now. false_from_ne_true (with_pair f.assumed i p j q) (with_cases f.assumed i p j q
          (λ this. true≢false (sym this ∙ not_this is_new j q (now_busy old j q now)))
          (λ had. true≢false (sym had ∙ staged.once j q (still_busy j q now))));
      placed = λ j q. with_cases f.assumed i p j q
          (λ this. (k, subst (λ r. old.busy k r ≡ true) (this_place i p j q this) beside))
          (placed_still k beside j q);
      within = λ j q. with_cases f.assumed i p j q (this_inside j q) (staged.within j q);
      held = λ j q is answers fits. with_cases f.assumed i p j q
          (λ this. of_this (λ n r. under_by w answers n r ≡ true) i p j q this (tells answers (assumes_fits leans answers fits)))
          (λ now. staged.held j q now answers (assumes_fits true answers fits)) is;
      stages = staged.stages;
    }

    -- ---- after a yes of the only pair in progress at its place

    abbrev pub alone : Found
    alone = after_yes_alone old f i p

    abbrev pub since : PairSet
    since j q = f.assumed j q && not (old.assumed j q)

    -- What was assumed since lies at the place.
    pub since_here : NoneDeeper p old → (j : ℕ) (q : Place) → since j q ≡ true → q ≡ p
    since_here none_deeper j q is =
        let both = and_parts (f.assumed j q) (not (old.assumed j q)) is in
        let other = staged.placed j q both.0 in
        with_cases old.busy i p other.0 q
        (λ this. sym (this_place i p other.0 q this))
        (λ was. elim (grew.here j q both.0) [
          | inl had ↦ absurd (true≢false (sym both.1 ∙ ap not had))
          | inr there ↦ there.1 ∙ no_longer p there.0 (subst (λ q. length q ≤ length p) there.1 (none_deeper other.0 q was))
        ])
        (sym (grew.busy other.0 q) ∙ other.1)

    abbrev pub new : PairSet
    new j q = is_this i p j q || since j q

    pub new_unknown : (j : ℕ) (q : Place) → new j q ≡ true → f.known j q ≡ None
    new_unknown j q = in_either (is_this i p j q) (since j q)
        (this_unknown j q)
        (λ is. assumed_unknown w f staged j q (and_parts (f.assumed j q) (not (old.assumed j q)) is).0)

    pub alone_grows : Grows p old alone
    alone_grows = record {
      busy = λ j q. refl;
      known = λ j q v is. known_still w f staged new true new_unknown j q v (grew.known j q v is);
      assumed = λ j q is. is;
      here = λ j q is. inl is;
    }

    pub alone_says : (leans : Bool) → PairTells alone i p true leans
    alone_says leans = tells_known alone i p true leans (if_true (new i p) _ _ (or_left _ _ (this_self i p)))

    module _ (none_at : NoneAt p old) (none_deeper : NoneDeeper p old) where
      -- No pair that was in progress before lies at the place or below it.
      none_from : (j : ℕ) (r : Place) → old.busy j (p ++ r) ≡ true → ⊥
      none_from j r is =
          let same : p ++ r ≡ p = no_longer p r (none_deeper j (p ++ r) is) in
          true≢false (sym (subst (λ q. old.busy j q ≡ true) same is) ∙ none_at j)

      none_assumed : (j : ℕ) (r : Place) → old.assumed j (p ++ r) ≡ true → ⊥
      none_assumed j r is = let other = before.placed j (p ++ r) is in none_from other.0 r other.1

      new_here : (j : ℕ) (q : Place) → new j q ≡ true → q ≡ p
      new_here j q = in_either (is_this i p j q) (since j q) (λ this. sym (this_place i p j q this)) (since_here none_deeper j q)

      -- Whatever is provisional at the place and below it becomes final.
      now_new : (j : ℕ) (r : Place) → for_now f j (p ++ r) ≡ true → new j (p ++ r) ≡ true
      now_new j r = now_cases f j (p ++ r)
          (λ now. with_cases old.busy i p j (p ++ r)
          (λ this. or_left _ _ this)
          (λ was. absurd (none_from j r was))
          (sym (grew.busy j (p ++ r)) ∙ now))
          (λ now. or_right (is_this i p j (p ++ r)) _ (both_true _ _ now (ap not (false_from_ne_true (old.assumed j (p ++ r)) (none_assumed j r)))))

      new_inside : (j : ℕ) (q : Place) → new j q ≡ true → j < w.count
      new_inside j q = in_either (is_this i p j q) (since j q) (this_inside j q) (λ is. staged.within j q (and_parts (f.assumed j q) (not (old.assumed j q)) is).0)

      new_tells : Tells w f i p true true → (j : ℕ) (q : Place) → new j q ≡ true → (answers : EdgeAnswers) → Fits f false answers
          → ((e : NodeEdge) (r : Place) → new e.node r ≡ true → answers e r ≡ true) → under_by w answers j q ≡ true
      new_tells tells j q is answers fits told =
          subst (λ z. under_by w answers j z ≡ true) (sym (new_here j q is)) (
          under_same w solvable answers (with_now w f staged answers) j p (λ r e. settled_by (answers e (p ++ r)) (for_now f e.node (p ++ r)) (λ now. told e (p ++ r) (now_new e.node r now)))
          ∙ subst (λ z. under_by w (with_now w f staged answers) j z ≡ true) (new_here j q is) (in_either (is_this i p j q) (since j q)
          (λ this. of_this (λ m r. under_by w (with_now w f staged answers) m r ≡ true) i p j q this (tells (with_now w f staged answers) (with_now_fits w f staged answers fits)))
          (λ was. staged.held j q (and_parts (f.assumed j q) (not (old.assumed j q)) was).0 (with_now w f staged answers) (with_now_fits w f staged answers fits)) is))
        where
          settled_by : (a b : Bool) → (b ≡ true → a ≡ true) → a ≡ (a || b)
          settled_by true b h = refl
          settled_by false true h = absurd (true≢false (sym (h refl)))
          settled_by false false h = refl

      pub alone_sound : (leans : Bool) → Tells w f i p true leans → IsStaged w alone
      alone_sound leans tells = record {
        apart = λ j q is.
            let other : new j q ≡ false = false_from_ne_true (new j q) (λ fresh.
            let from_place : q ≡ p ++ [] = new_here j q fresh ∙ sym (append-nil p) in
            now_cases old j q
            (λ now. none_from j [] (subst (λ r. old.busy j r ≡ true) from_place now))
            (λ now. none_assumed j [] (subst (λ r. old.assumed j r ≡ true) from_place now)) is) in
            if_false (new j q) _ _ other ∙ old_now j q is;
        once = before.once;
        placed = before.placed;
        within = before.within;
        held = λ j q is answers fits. before.held j q is answers
            (known_fits w f staged new true new_unknown old true true answers (λ m r v was. known_still w f staged new true new_unknown m r v (grew.known m r v was)) (λ yes e r now. fits.leaning yes e r now) alone (λ m r. refl) fits);
        stages = more_stages w f staged new true new_unknown new_inside
            (λ j q fresh answers fits yes. new_tells (λ a h. tells a (lean_less f leans true a (λ is. refl) h)) j q fresh answers fits (yes refl));
      }
