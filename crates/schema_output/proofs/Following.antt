-- The texts of units, one after the other, make the text of the list.
use Rattle.std.proofs.Common.{◌≡◌, ◌≤◌, Bool, false, true, List, [], ◌∷◌, ◌++◌, Some, codes, map, option_and_then, option_map, refl, sym, ap, ap₂, subst, ◌∙◌, arith, append_assoc}
use Rattle.json.specs.Json as json
use Rattle.json.specs.Print.{print, print_from}
use Rattle.json.specs.Token.{Token, end_array}
use Rattle.json.specs.Tree.{ItemsHaveNumbers, items_tokens, json_tokens}
use Rattle.serde_json.specs.Data.{Data, array, boolean, item, items_depth, member, no_members, object}
use Rattle.serde_json.specs.Read.{max_depth, of_items, of_json}
use Rattle.serde_json.specs.View.{items_of}
use Rattle.serde_json.specs.Written.{blank_items, items_outline}
use Rattle.serde_json.proofs.OnLiterals.{serde_json_on_literals}
use Rattle.theory_definitions.specs.Instance.{Text}
use Rattle.theory_definitions.specs.Reports.{Unit_, Units, a_unit, report_of, unit}
use Rattle.schema_output.specs.Output.{output_list, reports_in_each, unit_object}
use Rattle.schema_output.specs.Texts.{Follow, IsJsonText, Prints, closing, objects_below, opening}
use Rattle.schema_output.proofs.Printing.{print_first, print_next, text_of_prints}

pub follow_more : (ds es : List Data) (old mid new : Text) → Follow ds old mid → Follow es mid new → Follow (ds ++ es) old new
follow_more [] es old mid new h k = subst (λ s. Follow es s new) h k
follow_more (d ∷ ds) es old mid new h k = (h.0, h.1, follow_more ds es (old ++ 44 ∷ h.0) mid new h.2 k)

-- JSON of the values that were followed
record Followed (ds : List Data) (old new : Text) : Type 0 where
  items : json.Items
  printed : (ts : List Token) → new ++ print_from true (end_array ∷ ts) ≡ old ++ print_from true (items_tokens items ++ ts)
  numbers : ItemsHaveNumbers items
  same : blank_items items ≡ items_outline (items_of ds)
  reads : items_depth (items_of ds) ≤ max_depth → of_items items ≡ Some (items_of ds)

followed : (ds : List Data) (old new : Text) → Follow ds old new → Followed ds old new
followed [] old new h = record {
  items = json.no_items;
  printed = λ ts. ap (λ s. s ++ print_from true (end_array ∷ ts)) h;
  numbers = tt;
  same = refl;
  reads = λ shallow. refl;
}
followed (d ∷ ds) old new h =
    let p = h.1 in
    let f = followed ds (old ++ 44 ∷ h.0) new h.2 in
    record {
      items = json.item p.json f.items;
      printed = λ ts.
          let rest = print_from true (items_tokens f.items ++ ts) in
          f.printed ts ∙ append_assoc old (44 ∷ h.0) rest
          ∙ ap (λ s. old ++ 44 ∷ (s ++ rest)) p.printed
          ∙ ap (λ s. old ++ s) (sym (print_next p.json (items_tokens f.items ++ ts)))
          ∙ ap (λ us. old ++ print_from true us) (sym (append_assoc (json_tokens p.json) (items_tokens f.items) ts));
      numbers = (p.numbers, f.numbers);
      same = ap₂ json.item p.same f.same;
      reads = λ shallow.
          ap (option_and_then (λ e. option_map (item e) (of_items f.items))) (p.reads (omega (arith, shallow)))
          ∙ ap (option_map (item d)) (f.reads (omega (arith, shallow)));
    }

abbrev closing_tokens : Bool → List Token
closing_tokens valid = Token.key (codes "valid") ∷ Token.boolean valid ∷ Token.end_object ∷ []

abbrev whole : json.Items → Bool → json.Json
whole js valid = json.object (json.member (codes "details") (json.array js) (json.member (codes "valid") (json.boolean valid) json.no_members))

closed : (valid : Bool) → print_from true (end_array ∷ closing_tokens valid) ≡ closing valid
unfolding serde_json_on_literals
closed true = refl
closed false = refl

opened : (js : json.Items) (j : json.Json) (valid : Bool) → print (json_tokens (whole (json.item j js) valid)) ≡ opening ++ print (json_tokens j ++ (items_tokens js ++ closing_tokens valid))
unfolding serde_json_on_literals
opened js j valid = ap (λ ts. opening ++ print ts) (append_assoc (json_tokens j) (items_tokens js) (closing_tokens valid))

whole_read : (js : json.Items) (ds : List Data) (valid : Bool) → of_items js ≡ Some (items_of ds)
    → of_json (whole js valid) ≡ Some (object (member (codes "details") (array (items_of ds)) (member (codes "valid") (boolean valid) no_members)))
whole_read js ds valid e = rw e refl

pub list_prints : (u : Unit_) (first mid : Text) → Prints (unit_object (report_of u)) first → Follow (objects_below u) (opening ++ first) mid
    → IsJsonText (output_list u) (mid ++ closing (report_of u).valid)
list_prints (unit r us) first mid p h =
    let ds = objects_below (unit r us) in
    let f = followed ds (opening ++ first) mid h in
    let js = json.item p.json f.items in
    let valid = r.valid in
    let rest = print_from true (items_tokens f.items ++ closing_tokens valid) in
    text_of_prints (output_list (unit r us)) (mid ++ closing valid) (record {
      json = whole js valid;
      printed =
          ap (λ s. mid ++ s) (sym (closed valid)) ∙ f.printed (closing_tokens valid) ∙ append_assoc opening first rest
          ∙ ap (λ s. opening ++ (s ++ rest)) p.printed ∙ ap (λ s. opening ++ s) (sym (print_first p.json (items_tokens f.items ++ closing_tokens valid)))
          ∙ sym (opened f.items p.json valid);
      numbers = ((p.numbers, f.numbers), (tt, tt));
      same = ap (λ is. json.object (json.member (codes "details") (json.array is) (json.member (codes "valid") (json.boolean valid) json.no_members))) (ap₂ json.item p.same f.same);
      reads = λ shallow. whole_read js (unit_object r ∷ ds) valid (
          ap (option_and_then (λ e. option_map (item e) (of_items f.items))) (p.reads (omega (arith, shallow)))
          ∙ ap (option_map (item (unit_object r))) (f.reads (omega (arith, shallow))));
    })

-- the objects of a unit and of those inside it, and then those of the units after it
map_more : {A B : Type 0} (f : A → B) (xs ys : List A) → map f (xs ++ ys) ≡ map f xs ++ map f ys
map_more f [] ys = refl
map_more f (x ∷ xs) ys = ap (λ l. f x ∷ l) (map_more f xs ys)

pub follow_unit : (u : Unit_) (us : Units) (old new end text : Text) → Prints (unit_object (report_of u)) text
    → Follow (objects_below u) (old ++ 44 ∷ text) new → Follow (map unit_object (reports_in_each us)) new end
    → Follow (map unit_object (reports_in_each (a_unit u us))) old end
follow_unit (unit r inside) us old new end text p h k =
    subst (λ ds. Follow ds old end) (sym (ap (λ l. unit_object r ∷ l) (map_more unit_object (reports_in_each inside) (reports_in_each us))))
    (text, p, follow_more (objects_below (unit r inside)) (map unit_object (reports_in_each us)) (old ++ 44 ∷ text) new end h k)
