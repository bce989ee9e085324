-- Patterns that match alike, form by form.
use Rattle.std.proofs.Common.{◌≡◌, ◌≤◌, ◌||◌, ◌&&◌, ◌+◌, ◌++◌, ◌-◌, ◌∷◌, [], ◌∙◌, ℕ, zero, suc, Bool, true, false, ap, refl, subst, sym, inl, inr, List, length, Option, nat_le}
use Rattle.std.specs.Prelude.{slice_index, option_map}
use Rattle.pattern_trees.specs.Sets.{in_set}
use Rattle.pattern_trees.specs.Patterns.{Pattern, Empty, One, Then, Either, Look, Repeat, Leads, Matches, Iterates, IfWanted, IsFound}
use Rattle.pattern_trees.specs.Nodes.{Node, Around, node_of}
use Rattle.pattern_trees.specs.Trees.{pattern_of}
use Rattle.pattern_trees.specs.declared.tree.Look as looks
use Rattle.pattern_trees.specs.declared.tree.Tree.{Tree}
use Rattle.pattern_trees.specs.declared.tree.Turns.{Turns}
use Rattle.pattern_sets.specs.Alike.{AreAlike, repeat_of}
use Rattle.pattern_sets.proofs.Leading.{or_left, or_right, or_true}

pub alike_refl : (p : Pattern) → AreAlike p p
alike_refl p = record { there = λ text i j h. h; back = λ text i j h. h }

pub alike_trans : (p q r : Pattern) → AreAlike p q → AreAlike q r → AreAlike p r
alike_trans p q r a b = record {
  there = λ text i j h. b.there text i j (a.there text i j h);
  back = λ text i j h. a.back text i j (b.back text i j h);
}

pub alike_then : (p q a b : Pattern) → AreAlike p a → AreAlike q b → AreAlike (Then p q) (Then a b)
alike_then p q a b x y = record {
  there = λ text i j h. (h.0, x.there text i h.0 h.1, y.there text h.0 j h.2);
  back = λ text i j h. (h.0, x.back text i h.0 h.1, y.back text h.0 j h.2);
}

pub alike_either : (p q a b : Pattern) → AreAlike p a → AreAlike q b → AreAlike (Either p q) (Either a b)
alike_either p q a b x y = record {
  there = λ text i j h. elim h [ inl u ↦ inl (x.there text i j u) | inr u ↦ inr (y.there text i j u) ];
  back = λ text i j h. elim h [ inl u ↦ inl (x.back text i j u) | inr u ↦ inr (y.back text i j u) ];
}

-- the same number of steps of a relation that holds where another does
iterates_map : (R S : ℕ → ℕ → Type 0) → ((i j : ℕ) → R i j → S i j) → (n i j : ℕ) → Iterates R n i j → Iterates S n i j
iterates_map R S f zero i j e = e
iterates_map R S f (suc n) i j h = (h.0, f i h.0 h.1, iterates_map R S f n h.0 j h.2)

pub alike_repeat : (least : ℕ) (more : Option ℕ) (p a : Pattern) → AreAlike p a → AreAlike (Repeat least more p) (Repeat least more a)
alike_repeat least more p a x = record {
  there = λ text i j h. (h.0, h.1, iterates_map (λ u v. Matches p text u v) (λ u v. Matches a text u v) (x.there text) (least + h.0) i j h.2);
  back = λ text i j h. (h.0, h.1, iterates_map (λ u v. Matches a text u v) (λ u v. Matches p text u v) (x.back text) (least + h.0) i j h.2);
}

leads_map : (R S : ℕ → ℕ → Type 0) → ((i j : ℕ) → R i j → S i j) → (ahead : Bool) (i j : ℕ) → Leads ahead R i j → Leads ahead S i j
leads_map R S f true i j h = f i j h
leads_map R S f false i j h = f j i h

wanted_map : (wanted : Bool) (P Q : Type 0) → (P → Q) → (Q → P) → IfWanted wanted P → IfWanted wanted Q
wanted_map true P Q f g h = f h
wanted_map false P Q f g h = λ q. h (g q)

-- the body is seen from a position
abbrev Seen : Bool → Pattern → List ℕ → ℕ → Type 0
Seen ahead p text i = (k : ℕ) × (k ≤ length text) × Leads ahead (λ u v. Matches p text u v) i k

seen_map : (ahead : Bool) (p a : Pattern) (text : List ℕ) → ((u v : ℕ) → Matches p text u v → Matches a text u v) → (i : ℕ) → Seen ahead p text i → Seen ahead a text i
seen_map ahead p a text f i h = (h.0, h.1, leads_map (λ u v. Matches p text u v) (λ u v. Matches a text u v) f ahead i h.0 h.2)

pub alike_look : (ahead wanted : Bool) (p a : Pattern) → AreAlike p a → AreAlike (Look ahead wanted p) (Look ahead wanted a)
alike_look ahead wanted p a x = record {
  there = λ text i j h. (wanted_map wanted (Seen ahead p text i) (Seen ahead a text i) (seen_map ahead p a text (x.there text) i) (seen_map ahead a p text (x.back text) i) h.0, h.1);
  back = λ text i j h. (wanted_map wanted (Seen ahead a text i) (Seen ahead p text i) (seen_map ahead a p text (x.back text) i) (seen_map ahead p a text (x.there text) i) h.0, h.1);
}

-- one after the other, and then a third
pub then_in_row : (a b c : Pattern) → AreAlike (Then (Then a b) c) (Then a (Then b c))
then_in_row a b c = record {
  there = λ text i j h. (h.1.0, h.1.1, (h.0, h.1.2, h.2));
  back = λ text i j h. (h.2.0, (h.0, h.1, h.2.1), h.2.2);
}

pub nothing_after : (p : Pattern) → AreAlike p (Then p Empty)
nothing_after p = record {
  there = λ text i j h. (j, h, refl);
  back = λ text i j h. subst (λ (k : ℕ). Matches p text i k) h.2 h.1;
}

pub nothing_before : (p : Pattern) → AreAlike (Then Empty p) p
nothing_before p = record {
  there = λ text i j h. subst (λ (k : ℕ). Matches p text k j) (sym h.1) h.2;
  back = λ text i j h. (i, refl, h);
}

or_assoc : (a b c : Bool) → ((a || b) || c) ≡ (a || (b || c))
or_assoc true b c = refl
or_assoc false b c = refl

-- a character is in the spans of both
in_both : (xs ys : List (ℕ × ℕ)) (c : ℕ) → in_set (xs ++ ys) c ≡ (in_set xs c || in_set ys c)
in_both [] ys c = refl
in_both (x ∷ xs) ys c =
    ap (λ (b : Bool). (nat_le x.0 c && nat_le c x.1) || b) (in_both xs ys c) ∙ sym (or_assoc (nat_le x.0 c && nat_le c x.1) (in_set xs c) (in_set ys c))

pub sets_alike : (xs ys : List (ℕ × ℕ)) → AreAlike (Either (One xs) (One ys)) (One (xs ++ ys))
sets_alike xs ys = record {
  there = λ text i j h. elim h [
    | inl u ↦ (u.0, in_both xs ys (slice_index text i) ∙ or_left (in_set xs (slice_index text i)) (in_set ys (slice_index text i)) u.1, u.2)
    | inr u ↦ (u.0, in_both xs ys (slice_index text i) ∙ or_right (in_set xs (slice_index text i)) (in_set ys (slice_index text i)) u.1, u.2)
  ];
  back = λ text i j h. elim (or_true (in_set xs (slice_index text i)) (in_set ys (slice_index text i)) (sym (in_both xs ys (slice_index text i)) ∙ h.1)) [
    | inl u ↦ inl (h.0, u, h.2)
    | inr u ↦ inr (h.0, u, h.2)
  ];
}

-- ---- an item that was rewritten, before the rest

pub look_before : (look : looks.Look) (value read body item : Tree) (rest result : Pattern) → read ≡ value → AreAlike (pattern_of (node_of read)) (pattern_of (node_of body)) → node_of item ≡ Around look (node_of body) →
    AreAlike (Then (pattern_of (node_of item)) rest) result → AreAlike (Then (Look look.ahead look.wanted (pattern_of (node_of value))) rest) result
look_before look value read body item rest result same inner made whole =
    let p = pattern_of (node_of value) in
    let a = pattern_of (node_of body) in
    let alike : AreAlike p a = subst (λ (t : Tree). AreAlike (pattern_of (node_of t)) a) same inner in
    let last : AreAlike (Then (Look look.ahead look.wanted a) rest) result = subst (λ (n : Node). AreAlike (Then (pattern_of n) rest) result) made whole in
    alike_trans (Then (Look look.ahead look.wanted p) rest) (Then (Look look.ahead look.wanted a) rest) result
    (alike_then (Look look.ahead look.wanted p) rest (Look look.ahead look.wanted a) rest (alike_look look.ahead look.wanted p a alike) (alike_refl rest)) last

pub times_before : (t : Turns) (value read body item : Tree) (rest result : Pattern) → read ≡ value → AreAlike (pattern_of (node_of read)) (pattern_of (node_of body)) → AreAlike (repeat_of t (pattern_of (node_of body))) (pattern_of (node_of item)) →
    AreAlike (Then (pattern_of (node_of item)) rest) result → AreAlike (Then (repeat_of t (pattern_of (node_of value))) rest) result
times_before t value read body item rest result same inner made whole =
    let p = pattern_of (node_of value) in
    let a = pattern_of (node_of body) in
    let alike : AreAlike p a = subst (λ (t : Tree). AreAlike (pattern_of (node_of t)) a) same inner in
    let b = pattern_of (node_of item) in
    let once : AreAlike (repeat_of t p) b = alike_trans (repeat_of t p) (repeat_of t a) b (alike_repeat t.min (option_map (λ most. most - t.min) t.max) p a alike) made in
    alike_trans (Then (repeat_of t p) rest) (Then b rest) result (alike_then (repeat_of t p) rest b rest once (alike_refl rest)) whole

-- ---- where the whole pattern matches

pub found_alike : (p q : Pattern) (text : List ℕ) → AreAlike p q → IsFound p text → IsFound q text
found_alike p q text alike f = (f.0, f.1, f.2, alike.there text f.0 f.1 f.3)

pub alike_back : (p q : Pattern) → AreAlike p q → AreAlike q p
alike_back p q a = record { there = a.back; back = a.there }
