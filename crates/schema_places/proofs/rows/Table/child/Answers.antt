use Rattle.std.proofs.Common.{◌<◌, ◌≡◌, ◌∙◌, ℕ, [], ◌∷◌, List, ap, ap₂, arith, get_or, length, refl, subst, sym}
use Rattle.std.specs.Prelude.{slice_range}
use Rattle.schema_reports.specs.InstanceViews.{step_of}
use Rattle.schema_places.specs.Rows.{Laid, LaidBelow, Led, Rising, RisesBelow, leads_of, leads_to_names, led_by, members_below, name_in, named_by, row_in}
use Rattle.schema_places.specs.RowViews.{AllSmall, IsWithin, below_of, rows_of, text_at}
use Rattle.schema_places.specs.declared.rows.Below.{Below}
use Rattle.schema_places.specs.declared.rows.Row.{Row}
use Rattle.schema_places.proofs.Tables.{names_found, row_at, rows_length, small_range, within_at}
use Rattle.schema_places.proofs.rows.Table.child.Goals as goal

pub numbers_between-requires : goal.numbers_between-requires
numbers_between-requires c =
    let t = c.self.inside in
    let b = length t.numbers.items in
    let r = c.index.result.now in
    let known = subst (λ (xs : List Laid). c.args.place < length xs) (sym c.self.view_is) c.requires.known in
    let there : c.args.place < length t.rows.items = omega (arith, known, rows_length t.numbers.items t.rows.items) in
    let within = subst (λ (x : Below). IsWithin b x) c.in-Items.is (within_at b t.rows.items c.args.place r c.self.invariant.within there c.index.ensures) in
    record { order = within.0; end = omega (arith, within.1, ap (λ (xs : List ℕ). length xs) c.as_slice.ensures.value) }

pub numbers_between-requires-in-Members : goal.numbers_between-requires-in-Members
numbers_between-requires-in-Members c =
    let t = c.self.inside in
    let b = length t.numbers.items in
    let r = c.index.result.now in
    let known = subst (λ (xs : List Laid). c.args.place < length xs) (sym c.self.view_is) c.requires.known in
    let there : c.args.place < length t.rows.items = omega (arith, known, rows_length t.numbers.items t.rows.items) in
    let within = subst (λ (x : Below). IsWithin b x) c.in-Members.is (within_at b t.rows.items c.args.place r c.self.invariant.within there c.index.ensures) in
    record { order = within.0; end = omega (arith, within.1, ap (λ (xs : List ℕ). length xs) c.as_slice-in-Members-2.ensures.value) }

rises_so : (all : List Laid) (ns : List ℕ) → RisesBelow all (members_below ns) → Rising (named_by (name_in all) ns)
rises_so all [] h = tt
rises_so all (n ∷ ns) h = h

leads_so : (all : List Laid) (ns : List ℕ) → leads_of all (members_below ns) ≡ leads_to_names (named_by (name_in all) ns)
leads_so all [] = refl
leads_so all (n ∷ ns) = refl

-- what the row says
below_there : (bs : List ℕ) (rs : List Row) (now : List Laid) (i : ℕ) (r : Row) (b : Below) → rows_of bs rs ≡ now → i < length now → r ≡ get_or rs i r → r.below ≡ b → (row_in now i).below ≡ below_of bs b
below_there bs rs now i r b e l g h =
    let size = ap (λ (xs : List Laid). length xs) e in
    sym (ap (λ (x : Laid). x.below) (row_at bs rs i r (omega (arith, size, rows_length bs rs)) g ∙ ap (λ (xs : List Laid). row_in xs i) e)) ∙ ap (below_of bs) h

names_there : (bs : List ℕ) (rs : List Row) (now : List Laid) (ns : List ℕ) → rows_of bs rs ≡ now → named_by (name_in now) ns ≡ named_by (text_at rs) ns
names_there bs rs now ns e = ap (λ (xs : List Laid). named_by (name_in xs) ns) (sym e) ∙ names_found bs rs ns

pub child_of_members-requires : goal.child_of_members-requires
child_of_members-requires c =
    let t = c.self.inside in
    let bs = t.numbers.items in
    let rs = t.rows.items in
    let now = c.args.self.now in
    let ns = slice_range bs c.in-Members.from c.in-Members.to in
    let here = below_there bs rs now c.args.place c.index.result.now _ c.self.view_is c.requires.known c.index.ensures c.in-Members.is in
    let part = c.numbers_between-in-Members.ensures.part ∙ ap (λ (xs : List ℕ). slice_range xs c.in-Members.from c.in-Members.to) c.as_slice-in-Members-2.ensures.value in
    let rising = rises_so now ns (subst (λ (b : LaidBelow). RisesBelow now b) here c.requires.rising) in
    let named = names_there bs rs now ns c.self.view_is ∙ ap₂ (λ (xs : List Row) (ms : List ℕ). named_by (text_at xs) ms) (sym c.as_slice-in-Members.ensures.value) (sym part) in
    record {
      rising = subst Rising named rising;
      small = subst AllSmall (sym part) (small_range bs c.in-Members.from c.in-Members.to c.self.invariant.small);
    }

pub returns-in-Members : goal.returns-in-Members
returns-in-Members c =
    let t = c.self.inside in
    let bs = t.numbers.items in
    let rs = t.rows.items in
    let now = c.args.self.now in
    let ns = slice_range bs c.in-Members.from c.in-Members.to in
    let here = below_there bs rs now c.args.place c.index.result.now _ c.self.view_is c.requires.known c.index.ensures c.in-Members.is in
    let part = c.numbers_between-in-Members.ensures.part ∙ ap (λ (xs : List ℕ). slice_range xs c.in-Members.from c.in-Members.to) c.as_slice-in-Members-2.ensures.value in
    let named = names_there bs rs now ns c.self.view_is ∙ ap₂ (λ (xs : List Row) (ms : List ℕ). named_by (text_at xs) ms) (sym c.as_slice-in-Members.ensures.value) (sym part) in
    record {
      child = c.child_of_members.ensures.child
          ∙ ap (λ (l : List Led). led_by (step_of c.args.step) l) (ap leads_to_names (sym named) ∙ sym (leads_so now ns) ∙ ap (leads_of now) (sym here));
    }
