-- A text that prints some JSON of a value is the value's text, and the result of `to_string` is one.
use Rattle.std.proofs.Common.{◌≡◌, ◌≤◌, max, suc, Bool, false, true, fold, List, [], ◌∷◌, ◌++◌, Some, option_and_then, refl, sym, ap, ap₂, subst, ◌∙◌, arith, append-nil}
use Rattle.std.proofs.lemmas.Grind.{fold-append}
use Rattle.json.specs.Json as json
use Rattle.json.specs.Lex.{tokens}
use Rattle.json.specs.Print.{ends, print, print_from}
use Rattle.json.specs.Token.{Token}
use Rattle.json.specs.Tree as tree
use Rattle.json.specs.Tree.{HasNumbers, items_tokens, json_tokens, members_tokens}
use Rattle.json.proofs.Numbered.{ArePrintableOrBad-tokens, value-HasNumbers}
use Rattle.json.proofs.Printed.Tokens.{print_from-append, tokens-print}
use Rattle.json.proofs.Printed.Trees.{ArePrintable-json_tokens, value-json_tokens}
use Rattle.serde_json.specs.Data.{Data, Items, Members, array, boolean, depth, item, items_depth, member, members_depth, no_items, no_members, null, number, object, string}
use Rattle.serde_json.specs.Read.{max_depth, of_json, read}
use Rattle.serde_json.specs.Written.{IsInOrder, blank, blank_items, blank_members, items_outline, members_outline, outline}
use Rattle.serde_json.proofs.Texts.{print-outline, tokens_from_order}
use Rattle.theory_definitions.specs.Instance.{Text}
use Rattle.schema_output.specs.Texts.{IsJsonText, Prints}

-- ---- depths

mutual
  depth-blank : (j : json.Json) → tree.depth (blank j) ≡ tree.depth j
  depth-blank json.null = refl
  depth-blank (json.boolean b) = refl
  depth-blank (json.number s) = refl
  depth-blank (json.string s) = refl
  depth-blank (json.array js) = ap suc (depth-blank_items js)
  depth-blank (json.object ms) = ap suc (depth-blank_members ms)

  depth-blank_items : (js : json.Items) → tree.items_depth (blank_items js) ≡ tree.items_depth js
  depth-blank_items json.no_items = refl
  depth-blank_items (json.item j js) = ap₂ max (depth-blank j) (depth-blank_items js)

  depth-blank_members : (ms : json.Members) → tree.members_depth (blank_members ms) ≡ tree.members_depth ms
  depth-blank_members json.no_members = refl
  depth-blank_members (json.member k j ms) = ap₂ max (depth-blank j) (depth-blank_members ms)

mutual
  depth-outline : (d : Data) → tree.depth (outline d) ≡ depth d
  depth-outline null = refl
  depth-outline (boolean b) = refl
  depth-outline (number n) = refl
  depth-outline (string s) = refl
  depth-outline (array ds) = ap suc (depth-items_outline ds)
  depth-outline (object ms) = ap suc (depth-members_outline ms)

  depth-items_outline : (ds : Items) → tree.items_depth (items_outline ds) ≡ items_depth ds
  depth-items_outline no_items = refl
  depth-items_outline (item d ds) = ap₂ max (depth-outline d) (depth-items_outline ds)

  depth-members_outline : (ms : Members) → tree.members_depth (members_outline ms) ≡ members_depth ms
  depth-members_outline no_members = refl
  depth-members_outline (member k d ms) = ap₂ max (depth-outline d) (depth-members_outline ms)

same_depth : (j : json.Json) (d : Data) → blank j ≡ outline d → tree.depth j ≡ depth d
same_depth j d same = sym (depth-blank j) ∙ ap tree.depth same ∙ depth-outline d

-- ---- reading what was printed

read_tokens : (j : json.Json) (text : Text) → tokens text ≡ json_tokens j → tree.depth j ≤ max_depth → read text ≡ of_json j
read_tokens j text lexed shallow =
    ap (λ o. option_and_then of_json (option_and_then (λ p. json.if_last p.0 p.1) o)) (ap (json.value max_depth) (lexed ∙ sym (append-nil (json_tokens j))) ∙ value-json_tokens j max_depth [] shallow)

lexed : (d : Data) (text : Text) (p : Prints d text) → tokens text ≡ json_tokens p.json
lexed d text p = ap tokens p.printed ∙ tokens-print (json_tokens p.json) (ArePrintable-json_tokens p.json p.numbers)

pub text_of_prints : (d : Data) (text : Text) → Prints d text → IsJsonText d text
text_of_prints d text p =
    let ts = lexed d text p in
    let ordered : IsInOrder text d = (p.json, ts, p.same) in
    let spaceless : text ≡ print (tokens text) = p.printed ∙ ap print (sym ts) in
    record {
      compact = λ whole. spaceless ∙ ap print (tokens_from_order text d ordered whole) ∙ print-outline d;
      spaceless = spaceless;
      ordered = ordered;
      reads_back = λ shallow. read_tokens p.json text ts (subst (λ n. n ≤ max_depth) (sym (same_depth p.json d p.same)) shallow) ∙ p.reads shallow;
    }

pub prints_of_text : (d : Data) (text : Text) → text ≡ print (tokens text) → IsInOrder text d → (depth d ≤ max_depth → read text ≡ Some d) → Prints d text
prints_of_text d text spaceless ordered reads_back =
    let j = ordered.0 in
    let ts = ordered.1 in
    record {
      json = j;
      printed = spaceless ∙ ap print ts;
      numbers = value-HasNumbers (tree.depth j) (tokens text) [] j (ArePrintableOrBad-tokens text)
          (ap (json.value (tree.depth j)) (ts ∙ sym (append-nil (json_tokens j))) ∙ value-json_tokens j (tree.depth j) [] (omega arith));
      same = ordered.2;
      reads = λ shallow. sym (read_tokens j text ts (subst (λ n. n ≤ max_depth) (sym (same_depth j d ordered.2)) shallow)) ∙ reads_back shallow;
    }

-- ---- a value is printed as by itself, after a comma if there is one before it

abbrev ended : Bool → List Token → Bool
ended c ts = fold (λ _ t. ends t) c ts

mutual
  ended-value : (c : Bool) (j : json.Json) → ended c (json_tokens j) ≡ true
  ended-value c json.null = refl
  ended-value c (json.boolean b) = refl
  ended-value c (json.number s) = refl
  ended-value c (json.string s) = refl
  ended-value c (json.array js) = ended-items false js
  ended-value c (json.object ms) = ended-members false ms

  ended-items : (c : Bool) (js : json.Items) → ended c (items_tokens js) ≡ true
  ended-items c json.no_items = refl
  ended-items c (json.item j js) = fold-append (λ _ t. ends t) c (json_tokens j) (items_tokens js) ∙ ended-items _ js

  ended-members : (c : Bool) (ms : json.Members) → ended c (members_tokens ms) ≡ true
  ended-members c json.no_members = refl
  ended-members c (json.member k j ms) = fold-append (λ _ t. ends t) false (json_tokens j) (members_tokens ms) ∙ ended-members _ ms

after_comma : (j : json.Json) → print_from true (json_tokens j) ≡ 44 ∷ print (json_tokens j)
unfolding print_from
after_comma json.null = refl
after_comma (json.boolean b) = refl
after_comma (json.number s) = refl
after_comma (json.string s) = refl
after_comma (json.array js) = refl
after_comma (json.object ms) = refl

going_on : (c : Bool) (j : json.Json) (ts : List Token) → print_from c (json_tokens j ++ ts) ≡ print_from c (json_tokens j) ++ print_from true ts
going_on c j ts = print_from-append c (json_tokens j) ts ∙ ap (λ b. print_from c (json_tokens j) ++ print_from b ts) (ended-value c j)

pub print_first : (j : json.Json) (ts : List Token) → print (json_tokens j ++ ts) ≡ print (json_tokens j) ++ print_from true ts
print_first j ts = going_on false j ts

pub print_next : (j : json.Json) (ts : List Token) → print_from true (json_tokens j ++ ts) ≡ 44 ∷ (print (json_tokens j) ++ print_from true ts)
print_next j ts = going_on true j ts ∙ ap (λ s. s ++ print_from true ts) (after_comma j)
