-- The references in the members of an object, and in the items of a list, one after the other.
use Rattle.std.proofs.Common.{◌≡◌, ◌∙◌, ◌<◌, ◌≤◌, ◌+◌, ◌++◌, ◌∷◌, [], ℕ, List, ap, append-nil, append_assoc, drop, get_or, length, string_bytes, sym}
use Rattle.std.proofs.lemmas.List.{drop_all, drop_more}
use Rattle.serde_json.specs.View.{items_view, members_view, view}
use Rattle.serde_json.specs.declared.value.Value.{Value}
use Rattle.serde_json.proofs.Views.{Entry}
use Rattle.theory_definitions.specs.Drafts.{Draft}
use Rattle.theory_definitions.specs.Instance.{Place, Text, to_item, to_member}
use Rattle.schema_files.specs.References.{Reference, item_references, member_references, own_reference, references}

module _ (base : Text) (draft : Draft) (path : Place) where
  -- what was listed before a loop, and is to come, is what is listed now, and is left
  abbrev pub OverMembers : List Reference → List Reference → List Entry → List Entry → Type 0
  OverMembers before now all left =
      before ++ member_references base draft path (members_view all) ≡ now ++ member_references base draft path (members_view left)

  pub members_start : (old : List Reference) (all left : List Entry) → left ≡ all → OverMembers old old all left
  members_start old all left is = ap (λ (es : List Entry). old ++ member_references base draft path (members_view es)) (sym is)

  pub members_go : (before old new : List Reference) (all left next : List Entry) (e : Entry) → left ≡ e ∷ next → OverMembers before old all left
      → new ≡ old ++ (own_reference base path (string_bytes e.0) (view e.1)
      ++ references base draft (path ++ to_member (string_bytes e.0) ∷ []) (view e.1))
      → OverMembers before new all next
  members_go before old new all left next e is so_far added =
      let here = own_reference base path (string_bytes e.0) (view e.1)
      ++ references base draft (path ++ to_member (string_bytes e.0) ∷ []) (view e.1) in
      let more = member_references base draft path (members_view next) in
      so_far ∙ ap (λ (es : List Entry). old ++ member_references base draft path (members_view es)) is
      ∙ sym (append_assoc old here more) ∙ ap (λ rs. rs ++ more) (sym added)

  pub members_end : (before now : List Reference) (all left : List Entry) → left ≡ [] → OverMembers before now all left
      → now ≡ before ++ member_references base draft path (members_view all)
  members_end before now all left is so_far =
      sym (append-nil now) ∙ sym (so_far ∙ ap (λ (es : List Entry). now ++ member_references base draft path (members_view es)) is)

  abbrev pub OverItems : List Reference → List Reference → List Value → List Value → ℕ → Type 0
  OverItems before now all items i =
      before ++ item_references base draft path 0 (items_view all) ≡ now ++ item_references base draft path i (items_view (drop i items))

  pub items_start : (old : List Reference) (all items : List Value) → items ≡ all → OverItems old old all items 0
  items_start old all items is = ap (λ (vs : List Value). old ++ item_references base draft path 0 (items_view vs)) (sym is)

  pub items_go : (before old new : List Reference) (all items : List Value) (i : ℕ) (e : Value) → i < length items → e ≡ get_or items i e
      → OverItems before old all items i → new ≡ old ++ references base draft (path ++ to_item i ∷ []) (view e)
      → OverItems before new all items (i + 1)
  items_go before old new all items i e l at so_far added =
      let left : drop i items ≡ e ∷ drop (i + 1) items = drop_more items i e l ∙ ap (λ (x : Value). x ∷ drop (i + 1) items) (sym at) in
      let here = references base draft (path ++ to_item i ∷ []) (view e) in
      let more = item_references base draft path (i + 1) (items_view (drop (i + 1) items)) in
      so_far ∙ ap (λ (vs : List Value). old ++ item_references base draft path i (items_view vs)) left
      ∙ sym (append_assoc old here more) ∙ ap (λ rs. rs ++ more) (sym added)

  pub items_end : (before now : List Reference) (all items : List Value) (i : ℕ) → length items ≤ i → OverItems before now all items i
      → now ≡ before ++ item_references base draft path 0 (items_view all)
  items_end before now all items i l so_far =
      sym (append-nil now)
      ∙ sym (so_far ∙ ap (λ (vs : List Value). now ++ item_references base draft path i (items_view vs)) (drop_all i items l))
