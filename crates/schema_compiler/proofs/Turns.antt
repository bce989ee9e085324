-- The turns of a maker, and what it has requested so far.
use Rattle.std.proofs.Common.{◌≡◌, ◌<◌, arith, ℕ, suc, max, Bool, cond, List, [], ◌∷◌, ◌++◌, length, map, refl, ap, sym, ◌∙◌, ◌⊎◌, ⊎_elim, inl, subst, append_assoc}
use Rattle.std.specs.Prelude.{Option, Some, None, String, string_bytes, filter_map, flat_map, Vec}
use Rattle.std.specs.declared.alloc.Global.{Global}
use Rattle.std.proofs.lemmas.List.{append-nil}
use Rattle.theory_definitions.specs.Instance.{Text, Place}
use Rattle.theory_definitions.specs.Parts.{Parts}
use Rattle.theory_definitions.specs.Making.{Made, Making, Request, Script, a_keyword, after_request, compile, followed, nothing, refer, refused, stopped, then_compile, then_end, then_pending, then_refer, then_reserve, until_refused}
use Rattle.theory_definitions.specs.Plan.{Edge, Key, found, is_refused, is_self, part_made, requested, subschema, to_ref, option_list}
use Rattle.theory_meaning.specs.Reach.{maker_edges}
use Rattle.theory_definitions.specs.Units.{absorbed_by}
use Rattle.schema_keys.specs.declared.error.BuildError.{BuildError}
use Rattle.schema_keys.specs.declared.error.BuildError.TheVariants.{KeywordRefused}
use Rattle.schema_keys.specs.Refusing.{Refused}
use Rattle.schema_compiler.proofs.References.{asked_not_self, leads_none, leads_some, not_refused, skipped_self}
use Rattle.theory_meaning.specs.Refusals.{Cause, end_causes, keyword_refused, lookup_causes, maker_causes, request_causes}
use Rattle.schema_keys.proofs.Lists.{in_right}
use Rattle.theory_definitions.specs.Reports as reports
use Rattle.theory_definitions.specs.Reports.{told_error}
use Rattle.schema_reports.specs.ReportViews.{owned_error_of}
use Rattle.schema_reports.specs.declared.reports.OwnedError.{OwnedError}
use Rattle.theory_definitions.specs.Guarded.{Children, NodeEdge, form_edges, node_keyword}
use Rattle.schema_node_table.specs.NodeTable.{NodeEntry}
use Rattle.schema_traits.specs.MakerViews.{IsStepOf, MakesRightly, PendingChangesNothing, TakesTurn, Told, Waiting, a_reserved, a_skip, begun, ended, none_pending, nothing_yet, one_pending, purpose_of, the_number, waits, wants_pending, wants_reserved}
use Rattle.schema_traits.specs.declared.table.MakerStep.{MakerStep}
use Rattle.schema_traits.specs.declared.table.MakerStep.TheVariants.{Compile, Refer, Pending, Reserve, Keyword, Nothing, Refuse}
use Rattle.schema_traits.specs.declared.table.PendingKind.{PendingKind}
use Rattle.serde_json.specs.Data.{Members}
use Rattle.schema_compiler.specs.Reserving.{Holds, Reserved, Reserves}
use Rattle.schema_compiler.proofs.Reserving.{having, holds_none, holds_one, holds_then, reserves_none}
use Rattle.schema_keys.specs.Compiling.{answers, reference_asked}
use Rattle.schema_compiler.specs.Carried.{Table, Task}
use Rattle.schema_compiler.specs.UnderWay.{Goes, IsUnderWay}
use Rattle.schema_compiler.proofs.UnderWay.{goes_having, goes_made, goes_none, goes_then}
use Rattle.schema_compiler.specs.Filling.{AreChildren, IsMadePart, IsStep, IsTable, LeadsTo}
use Rattle.schema_keys.proofs.Lists.{length-more}
use Rattle.schema_compiler.proofs.Growing.{children_stay, grown_stays, refused_first, refused_later, step_none, step_then}

-- the script that a maker continues with after a reply
abbrev pub resumed : {K : Type 0} → Waiting K → Told → Script K
resumed (begun s) told = s
resumed (waits n s skipped) a_skip = skipped
resumed (waits n s skipped) told = s
resumed (wants_pending n free held) one_pending = held
resumed (wants_pending n free held) told = free
resumed (wants_reserved n s) told = s
resumed ended told = then_end nothing

-- the reply that is due after this many requests
abbrev pub IsDue : {K : Type 0} → Waiting K → Told → ℕ → Type 0
IsDue (begun s) nothing_yet n = n ≡ 0
IsDue (waits m s skipped) (the_number j) n = (j ≡ m) × (n ≡ suc m)
IsDue (waits m s skipped) a_skip n = n ≡ suc m
IsDue (wants_pending m free held) none_pending n = n ≡ m
IsDue (wants_pending m free held) one_pending n = n ≡ m
IsDue (wants_reserved m s) a_reserved n = n ≡ m
IsDue _ _ n = ⊥

abbrev pub turns : {K : Type 0} → Script K → ℕ
turns (then_compile p s) = suc (turns s)
turns (then_refer t s skipped) = suc (max (turns s) (turns skipped))
turns (then_pending purpose free held) = suc (max (turns free) (turns held))
turns (then_reserve purpose s) = suc (turns s)
turns (then_end m) = 0

-- if a script asks for a pending number, it requests the same and ends alike whether there is one
-- or none
abbrev pub AsksAlike : {K : Type 0} → Script K → Type 0
AsksAlike (then_compile p s) = AsksAlike s
AsksAlike (then_refer t s skipped) = AsksAlike s × AsksAlike skipped
AsksAlike (then_pending purpose free held) = PendingChangesNothing free held × AsksAlike free × AsksAlike held
AsksAlike (then_reserve purpose s) = AsksAlike s
AsksAlike (then_end m) = Unit {0}

pub asks_alike : {K : Type 0} (absorbed : K → List Text) (is_whole : K → Bool) (object : Members) (s : Script K) → MakesRightly absorbed is_whole object s → AsksAlike s
asks_alike absorbed is_whole object (then_compile p s) h = asks_alike absorbed is_whole object s h.1
asks_alike absorbed is_whole object (then_refer t s skipped) h = (asks_alike absorbed is_whole object s h.0, asks_alike absorbed is_whole object skipped h.1)
asks_alike absorbed is_whole object (then_pending purpose free held) h = (h.0, asks_alike absorbed is_whole object free h.1, asks_alike absorbed is_whole object held h.2)
asks_alike absorbed is_whole object (then_reserve purpose s) h = asks_alike absorbed is_whole object s h
asks_alike absorbed is_whole object (then_end m) h = tt

module _ {C K : Type 0} (shape : C → K) where
  pub due_step : (w : Waiting K) (told : Told) (n : ℕ) (step : MakerStep C) (w' : Waiting K) → IsDue w told n → TakesTurn shape w told step w' → IsStepOf shape n (resumed w told) step w'
  due_step (begun s) nothing_yet n step w' d h = subst (λ m. IsStepOf shape m s step w') (sym d) h
  due_step (begun s) (the_number j) n step w' d h = absurd d
  due_step (begun s) a_skip n step w' d h = absurd d
  due_step (begun s) none_pending n step w' d h = absurd d
  due_step (begun s) one_pending n step w' d h = absurd d
  due_step (begun s) a_reserved n step w' d h = absurd d
  due_step (waits m s skipped) nothing_yet n step w' d h = absurd d
  due_step (waits m s skipped) (the_number j) n step w' d h = subst (λ q. IsStepOf shape q s step w') (sym d.1) (h d.0)
  due_step (waits m s skipped) a_skip n step w' d h = subst (λ q. IsStepOf shape q skipped step w') (sym d) h
  due_step (waits m s skipped) none_pending n step w' d h = absurd d
  due_step (waits m s skipped) one_pending n step w' d h = absurd d
  due_step (waits m s skipped) a_reserved n step w' d h = absurd d
  due_step (wants_pending m free held) nothing_yet n step w' d h = absurd d
  due_step (wants_pending m free held) (the_number j) n step w' d h = absurd d
  due_step (wants_pending m free held) a_skip n step w' d h = absurd d
  due_step (wants_pending m free held) none_pending n step w' d h = subst (λ q. IsStepOf shape q free step w') (sym d) h
  due_step (wants_pending m free held) one_pending n step w' d h = subst (λ q. IsStepOf shape q held step w') (sym d) h
  due_step (wants_pending m free held) a_reserved n step w' d h = absurd d
  due_step (wants_reserved m s) nothing_yet n step w' d h = absurd d
  due_step (wants_reserved m s) (the_number j) n step w' d h = absurd d
  due_step (wants_reserved m s) a_skip n step w' d h = absurd d
  due_step (wants_reserved m s) none_pending n step w' d h = absurd d
  due_step (wants_reserved m s) one_pending n step w' d h = absurd d
  due_step (wants_reserved m s) a_reserved n step w' d h = subst (λ q. IsStepOf shape q s step w') (sym d) h
  due_step ended nothing_yet n step w' d h = absurd d
  due_step ended (the_number j) n step w' d h = absurd d
  due_step ended a_skip n step w' d h = absurd d
  due_step ended none_pending n step w' d h = absurd d
  due_step ended one_pending n step w' d h = absurd d
  due_step ended a_reserved n step w' d h = absurd d

  pub compile_step : (n : ℕ) (s : Script K) (p : Place) (w : Waiting K) → IsStepOf shape n s (Compile p) w → (next : Script K) × (s ≡ then_compile p next) × (w ≡ waits n next next)
  compile_step n (then_compile path t) p w h = (t, ap (λ q. then_compile q t) (sym h.0), h.1)
  compile_step n (then_refer text u v) p w h = absurd h
  compile_step n (then_pending purpose u v) p w h = absurd h
  compile_step n (then_reserve purpose u) p w h = absurd h
  compile_step n (then_end (a_keyword m' absorbed)) p w h = absurd h
  compile_step n (then_end nothing) p w h = absurd h
  compile_step n (then_end (refused told x)) p w h = absurd h

  pub refer_step : (n : ℕ) (s : Script K) (t : String Global) (w : Waiting K) → IsStepOf shape n s (Refer t) w
      → (next : Script K) × (skipped : Script K) × (s ≡ then_refer (string_bytes t) next skipped) × (w ≡ waits n next skipped)
  refer_step n (then_refer text u v) t' w h = (u, v, ap (λ q. then_refer q u v) (sym h.0), h.1)
  refer_step n (then_compile path t) t' w h = absurd h
  refer_step n (then_pending purpose u v) t' w h = absurd h
  refer_step n (then_reserve purpose u) t' w h = absurd h
  refer_step n (then_end (a_keyword m' absorbed)) t' w h = absurd h
  refer_step n (then_end nothing) t' w h = absurd h
  refer_step n (then_end (refused told x)) t' w h = absurd h

  -- after a request for a reference, fewer turns are left
  pub fewer_refer : (waiting waiting' : Waiting K) (told told' : Told) (n : ℕ) (text : String Global) (o : Option NodeEdge) (m : ℕ) → IsDue waiting told n → TakesTurn shape waiting told (Refer text) waiting' → told' ≡ answers o m
      → turns (resumed waiting' told') < turns (resumed waiting told)
  fewer_refer waiting waiting' told told' n text None m due takes is =
      let st = refer_step n (resumed waiting told) text waiting' (due_step waiting told n (Refer text) waiting' due takes) in
      let before : turns (resumed waiting told) ≡ suc (max (turns st.0) (turns st.1)) = ap turns st.2 in
      let now : turns (resumed waiting' told') ≡ turns st.1 = ap (λ w. turns (resumed w told')) st.3 ∙ ap (λ y. turns (resumed (waits n st.0 st.1) y)) is in
      omega (arith, before, now)
  fewer_refer waiting waiting' told told' n text (Some e) m due takes is =
      let st = refer_step n (resumed waiting told) text waiting' (due_step waiting told n (Refer text) waiting' due takes) in
      let before : turns (resumed waiting told) ≡ suc (max (turns st.0) (turns st.1)) = ap turns st.2 in
      let now : turns (resumed waiting' told') ≡ turns st.0 = ap (λ w. turns (resumed w told')) st.3 ∙ ap (λ y. turns (resumed (waits n st.0 st.1) y)) is in
      omega (arith, before, now)

  pub pending_step : (n : ℕ) (s : Script K) (kind : PendingKind) (w : Waiting K) → IsStepOf shape n s (Pending kind) w
      → (free : Script K) × (held : Script K) × (s ≡ then_pending (purpose_of kind) free held) × (w ≡ wants_pending n free held)
  pending_step n (then_pending purpose u v) kind w h = (u, v, ap (λ q. then_pending q u v) (sym h.0), h.1)
  pending_step n (then_compile path t) kind w h = absurd h
  pending_step n (then_refer text u v) kind w h = absurd h
  pending_step n (then_reserve purpose u) kind w h = absurd h
  pending_step n (then_end (a_keyword m' absorbed)) kind w h = absurd h
  pending_step n (then_end nothing) kind w h = absurd h
  pending_step n (then_end (refused told x)) kind w h = absurd h

  pub reserve_step : (n : ℕ) (s : Script K) (kind : PendingKind) (w : Waiting K) → IsStepOf shape n s (Reserve kind) w → (next : Script K) × (s ≡ then_reserve (purpose_of kind) next) × (w ≡ wants_reserved n next)
  reserve_step n (then_reserve purpose u) kind w h = (u, ap (λ q. then_reserve q u) (sym h.0), h.1)
  reserve_step n (then_compile path t) kind w h = absurd h
  reserve_step n (then_refer text u v) kind w h = absurd h
  reserve_step n (then_pending purpose u v) kind w h = absurd h
  reserve_step n (then_end (a_keyword m' absorbed)) kind w h = absurd h
  reserve_step n (then_end nothing) kind w h = absurd h
  reserve_step n (then_end (refused told x)) kind w h = absurd h

  pub keyword_step : (n : ℕ) (s : Script K) (k : C) (names : Vec (String Global) Global) (w : Waiting K) → IsStepOf shape n s (Keyword k names) w → s ≡ then_end (a_keyword (shape k) (map string_bytes names.items))
  keyword_step n (then_end (a_keyword m' absorbed)) k names w h = ap then_end (ap (λ q. a_keyword q absorbed) (sym h.0) ∙ ap (a_keyword (shape k)) (sym h.1))
  keyword_step n (then_compile path t) k names w h = absurd h
  keyword_step n (then_refer text u v) k names w h = absurd h
  keyword_step n (then_pending purpose u v) k names w h = absurd h
  keyword_step n (then_reserve purpose u) k names w h = absurd h
  keyword_step n (then_end nothing) k names w h = absurd h
  keyword_step n (then_end (refused told x)) k names w h = absurd h

  pub nothing_step : (n : ℕ) (s : Script K) (w : Waiting K) → IsStepOf shape n s Nothing w → s ≡ then_end nothing
  nothing_step n (then_end nothing) w h = refl
  nothing_step n (then_compile path t) w h = absurd h
  nothing_step n (then_refer text u v) w h = absurd h
  nothing_step n (then_pending purpose u v) w h = absurd h
  nothing_step n (then_reserve purpose u) w h = absurd h
  nothing_step n (then_end (a_keyword m' absorbed)) w h = absurd h
  nothing_step n (then_end (refused told x)) w h = absurd h

  refuse_step : (n : ℕ) (s : Script K) (e : OwnedError) (w : Waiting K) → IsStepOf shape n s (Refuse e) w
      → (told : Bool) × (error : reports.OwnedError) × (s ≡ then_end (refused told error)) × (told_error told (owned_error_of e) ≡ told_error told error)
  refuse_step n (then_end (refused told x)) e w h = (told, x, refl, h)
  refuse_step n (then_compile path t) e w h = absurd h
  refuse_step n (then_refer text u v) e w h = absurd h
  refuse_step n (then_pending purpose u v) e w h = absurd h
  refuse_step n (then_reserve purpose u) e w h = absurd h
  refuse_step n (then_end (a_keyword m' absorbed)) e w h = absurd h
  refuse_step n (then_end nothing) e w h = absurd h

-- the same after some requests
abbrev pub after : {K : Type 0} → List Request → Making K → Making K
after rs m = record { requests = rs ++ m.requests; ends = m.ends }

pub filter_map-append : {A B : Type 0} (f : A → Option B) (xs ys : List A) → filter_map f (xs ++ ys) ≡ filter_map f xs ++ filter_map f ys
filter_map-append f [] ys = refl
filter_map-append {A} {B} f (x ∷ xs) ys =
    let go : (o : Option B) → f x ≡ o → filter_map f ((x ∷ xs) ++ ys) ≡ filter_map f (x ∷ xs) ++ filter_map f ys = elim [
      | None ↦ λ e. rw e (filter_map-append f xs ys)
      | Some b ↦ λ e. rw e (ap (λ zs. b ∷ zs) (filter_map-append f xs ys))
    ] in
    go (f x) refl

pub filter_map-one : {A B : Type 0} (f : A → Option B) (x : A) → filter_map f (x ∷ []) ≡ option_list (f x)
filter_map-one {A} {B} f x =
    let go : (o : Option B) → f x ≡ o → filter_map f (x ∷ []) ≡ option_list (f x) = elim [ None ↦ λ e. rw e refl | Some b ↦ λ e. rw e refl ] in
    go (f x) refl

pub flat_map-append : {A B : Type 0} (f : A → List B) (xs ys : List A) → flat_map f (xs ++ ys) ≡ flat_map f xs ++ flat_map f ys
flat_map-append f [] ys = refl
flat_map-append f (x ∷ xs) ys = ap (λ zs. f x ++ zs) (flat_map-append f xs ys) ∙ sym (append_assoc (f x) (flat_map f xs) (flat_map f ys))

pub flat_map-one : {A B : Type 0} (f : A → List B) (x : A) → flat_map f (x ∷ []) ≡ f x
flat_map-one f x = append-nil (f x)

module _ {S K C : Type 0} (w : Parts S K (Unit {0})) (shape : C → K) (limit nested : ℕ) (k : Key S) (name : Text) where
  abbrev given : Task S K C
  given = record { parts = w; shape = shape; limit = limit; nested = nested }

  pub children_length : (keys : List (Key S)) (es : Children) (rs : List Request) → AreChildren w keys k name es rs → length es ≡ length rs
  children_length keys [] [] h = refl
  children_length keys (e ∷ es) (r ∷ rs) h = ap suc (children_length keys es rs h.1)
  children_length keys [] (r ∷ rs) h = absurd h
  children_length keys (e ∷ es) [] h = absurd h

  children_more : (keys : List (Key S)) (es : Children) (rs : List Request) (e : Option NodeEdge) (r : Request) → AreChildren w keys k name es rs → LeadsTo w keys e (requested w k name r) → AreChildren w keys k name (es ++ e ∷ []) (rs ++ r ∷ [])
  children_more keys [] [] e r h l = (l, tt)
  children_more keys (d ∷ es) (q ∷ rs) e r h l = (h.0, children_more keys es rs e r h.1 l)
  children_more keys [] (q ∷ rs) e r h l = absurd h
  children_more keys (d ∷ es) [] e r h l = absurd h

  abbrev pub edges_of : List Request → List (Edge S)
  edges_of rs = filter_map (requested w k name) rs

  abbrev pub causes_of : List Request → List Cause
  causes_of rs = flat_map (request_causes w k) rs

  -- up to the first request that is refused
  abbrev pub until : Making K → Making K
  until m = until_refused (is_refused w k) m.requests m.ends

  -- what a script still requests
  abbrev pub left_of : Script K → Making K
  left_of s = until (followed (is_self w k to_ref) s)

  goes_on : (r : Request) (m : Making K) → request_causes w k r ≡ [] → until (after_request r m) ≡ after_request r (until m)
  goes_on r m clean = ap (λ b. after_request r (cond b stopped (until m))) (not_refused w k r clean)

  -- what a maker has requested so far, and what each request got
  pub record Asked (making : Making K) (waiting : Waiting K) (told : Told) (es : Children) (keys keys' : List (Key S)) (nodes nodes' : List (NodeEntry C)) (t t' : Table S C) : Type 0 where
    pub requests : List Request
    pub due : IsDue waiting told (length requests)
    pub so_far : making ≡ after requests (left_of (resumed waiting told))
    pub children : AreChildren w keys' k name es requests
    pub alike : AsksAlike (resumed waiting told)
    -- edges and numbers, without the maker's reservations
    pub goes : Goes given t (having t' t.reserved) (edges_of requests) (filter_map (λ (o : Option NodeEdge). o) es)
    pub holds : Holds k.target.place name t.reserved t'.reserved
    pub steps : IsStep w shape limit (edges_of requests) (causes_of requests) keys keys' nodes nodes'

  pub asked_begun : (making : Making K) (s : Script K) (waiting : Waiting K) (keys : List (Key S)) (nodes : List (NodeEntry C)) (t : Table S C) → making ≡ left_of s → AsksAlike s → waiting ≡ begun s → IsTable w shape limit keys nodes → IsUnderWay given t
      → Asked making waiting nothing_yet [] keys keys nodes nodes t t
  asked_begun making s waiting keys nodes t e alike f stands way = rw f (record { requests = []; due = refl; so_far = e; children = tt; alike = alike; goes = goes_none given t way; holds = holds_none k.target.place name t.reserved; steps = step_none w shape limit keys nodes stands })

  pub asked_next : (making : Making K) (waiting waiting' : Waiting K) (told told' : Told) (es : Children) (keys keys' keys'' : List (Key S)) (nodes nodes' nodes'' : List (NodeEntry C)) {t t' t'' : Table S C} (r : Request) (o : Option NodeEdge)
      → (a : Asked making waiting told es keys keys' nodes nodes' t t')
      → followed (is_self w k to_ref) (resumed waiting told) ≡ after_request r (followed (is_self w k to_ref) (resumed waiting' told'))
      → IsDue waiting' told' (suc (length a.requests)) → AsksAlike (resumed waiting' told')
      → LeadsTo w keys'' o (requested w k name r) → Goes given t' t'' (option_list (requested w k name r)) (option_list o)
      → IsStep w shape limit (option_list (requested w k name r)) (request_causes w k r) keys' keys'' nodes' nodes''
      → Asked making waiting' told' (es ++ o ∷ []) keys keys'' nodes nodes'' t t''
  asked_next making waiting waiting' told told' es keys keys' keys'' nodes nodes' nodes'' {t} {t'} {t''} r o a e due alike leads goes step =
      let stays = grown_stays _ keys' keys'' nodes' nodes'' step.grown in
      let f = left_of (resumed waiting' told') in
      record {
        requests = a.requests ++ r ∷ [];
        due = subst (IsDue waiting' told') (sym (length-more a.requests r)) due;
        so_far = a.so_far ∙ ap (λ m. after a.requests (until m)) e ∙ ap (after a.requests) (goes_on r (followed (is_self w k to_ref) (resumed waiting' told')) step.clean) ∙ ap (λ xs. record { requests = xs; ends = f.ends }) (sym (append_assoc a.requests (r ∷ []) f.requests));
        children = children_more keys'' es a.requests o r (children_stay w shape keys' keys'' stays k name es a.requests a.children) leads;
        alike = alike;
        holds = holds_then k.target.place name t.reserved t'.reserved t''.reserved a.holds goes.reserves;
        goes = subst (λ xs. Goes given t (having t'' t.reserved) xs (filter_map (λ (x : Option NodeEdge). x) (es ++ o ∷ []))) (sym (filter_map-append (requested w k name) a.requests (r ∷ []) ∙ ap (λ xs. edges_of a.requests ++ xs) (filter_map-one (requested w k name) r)))
            (subst (Goes given t (having t'' t.reserved) (edges_of a.requests ++ option_list (requested w k name r))) (sym (filter_map-append (λ (x : Option NodeEdge). x) es (o ∷ []) ∙ ap (λ xs. filter_map (λ (x : Option NodeEdge). x) es ++ xs) (filter_map-one (λ (x : Option NodeEdge). x) o)))
            (goes_then given t (having t' t.reserved) (having t'' t.reserved) (edges_of a.requests) (option_list (requested w k name r)) (filter_map (λ (x : Option NodeEdge). x) es) (option_list o) a.goes
            (goes_having given t' t'' t.reserved t.reserved (option_list (requested w k name r)) (option_list o) goes (reserves_none t.reserved))));
        steps = subst (λ xs. IsStep w shape limit xs (causes_of (a.requests ++ r ∷ [])) keys keys'' nodes nodes'') (sym (filter_map-append (requested w k name) a.requests (r ∷ []) ∙ ap (λ xs. edges_of a.requests ++ xs) (filter_map-one (requested w k name) r)))
            (subst (λ xs. IsStep w shape limit (edges_of a.requests ++ option_list (requested w k name r)) xs keys keys'' nodes nodes'') (sym (flat_map-append (request_causes w k) a.requests (r ∷ []) ∙ ap (λ xs. causes_of a.requests ++ xs) (flat_map-one (request_causes w k) r)))
            (step_then w shape limit (edges_of a.requests) (option_list (requested w k name r)) (causes_of a.requests) (request_causes w k r) keys keys' keys'' nodes nodes' nodes'' a.steps step));
      }

  -- ---- the turns of a maker

  pub asked_compile : (making : Making K) (waiting waiting' : Waiting K) (told : Told) (es : Children) (keys keys' keys'' : List (Key S)) (nodes nodes' nodes'' : List (NodeEntry C)) {t t' t'' : Table S C} (path : Place) (e : NodeEdge) (n : ℕ)
      → Asked making waiting told es keys keys' nodes nodes' t t' → TakesTurn shape waiting told (Compile path) waiting' → n ≡ length es
      → LeadsTo w keys'' (Some e) (subschema w k path) → Goes given t' t'' (option_list (subschema w k path)) (e ∷ [])
      → IsStep w shape limit (option_list (subschema w k path)) (request_causes w k (compile path)) keys' keys'' nodes' nodes''
      → Asked making waiting' (the_number n) (es ++ Some e ∷ []) keys keys'' nodes nodes'' t t''
  asked_compile making waiting waiting' told es keys keys' keys'' nodes nodes' nodes'' {t} {t'} {t''} path e n a takes count leads goes step =
      let st = compile_step shape (length a.requests) (resumed waiting told) path waiting' (due_step shape waiting told (length a.requests) (Compile path) waiting' a.due takes) in
      let same : n ≡ length a.requests = count ∙ children_length keys' es a.requests a.children in
      asked_next making waiting waiting' told (the_number n) es keys keys' keys'' nodes nodes' nodes'' (compile path) (Some e) a
      (ap (λ s. followed (is_self w k to_ref) s) st.1 ∙ ap (λ x. after_request (compile path) (followed (is_self w k to_ref) (resumed x (the_number n)))) (sym st.2))
      (subst (λ x. IsDue x (the_number n) (suc (length a.requests))) (sym st.2) (same, refl))
      (subst (λ x. AsksAlike (resumed x (the_number n))) (sym st.2) (let all : AsksAlike (then_compile path st.0) = subst AsksAlike st.1 a.alike in all))
      leads goes step

  -- the pending number is asked for; if there is one, the requests are the same and the maker ends
  -- alike
  pub asked_pending : (making : Making K) (waiting waiting' : Waiting K) (told told' : Told) (es : Children) (keys keys' : List (Key S)) (nodes nodes' : List (NodeEntry C)) {t t' : Table S C} (kind : PendingKind)
      → Asked making waiting told es keys keys' nodes nodes' t t' → TakesTurn shape waiting told (Pending kind) waiting' → (told' ≡ none_pending) ⊎ (told' ≡ one_pending)
      → Asked making waiting' told' es keys keys' nodes nodes' t t'
  asked_pending making waiting waiting' told told' es keys keys' nodes nodes' {t} {t'} kind a takes is =
      let st = pending_step shape (length a.requests) (resumed waiting told) kind waiting' (due_step shape waiting told (length a.requests) (Pending kind) waiting' a.due takes) in
      let all : AsksAlike (then_pending (purpose_of kind) st.0 st.1) = subst AsksAlike st.2 a.alike in
      let before : making ≡ after a.requests (left_of st.0) = a.so_far ∙ ap (λ s. after a.requests (left_of s)) st.2 in
      subst (λ y. Asked making y told' es keys keys' nodes nodes' t t') (sym st.3) (⊎_elim
      (λ none. subst (λ y. Asked making (wants_pending (length a.requests) st.0 st.1) y es keys keys' nodes nodes' t t') (sym none)
      (record { requests = a.requests; due = refl; so_far = before; children = a.children; alike = all.1; goes = a.goes; holds = a.holds; steps = a.steps }))
      (λ one. subst (λ y. Asked making (wants_pending (length a.requests) st.0 st.1) y es keys keys' nodes nodes' t t') (sym one)
      (record { requests = a.requests; due = refl; so_far = before ∙ ap (λ m. after a.requests (until m)) (all.0 (is_self w k to_ref)); children = a.children; alike = all.2; goes = a.goes; holds = a.holds; steps = a.steps }))
      is)

  -- a number is reserved
  pub asked_reserve : (making : Making K) (waiting waiting' : Waiting K) (told told' : Told) (es : Children) (keys keys' : List (Key S)) (nodes nodes' : List (NodeEntry C)) {t t' : Table S C} (kind : PendingKind) (rs : List Reserved) (r : Reserved)
      → Asked making waiting told es keys keys' nodes nodes' t t' → TakesTurn shape waiting told (Reserve kind) waiting' → told' ≡ a_reserved → r.object ≡ k.target.place → r.keyword ≡ name → rs ≡ t'.reserved ++ r ∷ []
      → Asked making waiting' told' es keys keys' nodes nodes' t (having t' rs)
  asked_reserve making waiting waiting' told told' es keys keys' nodes nodes' {t} {t'} kind rs r a takes is at named added =
      let st = reserve_step shape (length a.requests) (resumed waiting told) kind waiting' (due_step shape waiting told (length a.requests) (Reserve kind) waiting' a.due takes) in
      let all : AsksAlike (then_reserve (purpose_of kind) st.0) = subst AsksAlike st.1 a.alike in
      let so_far : making ≡ after a.requests (left_of st.0) = a.so_far ∙ ap (λ s. after a.requests (left_of s)) st.1 in
      subst (λ y. Asked making y told' es keys keys' nodes nodes' t (having t' rs)) (sym st.2)
      (subst (λ y. Asked making (wants_reserved (length a.requests) st.0) y es keys keys' nodes nodes' t (having t' rs)) (sym is)
      (record { requests = a.requests; due = refl; so_far = so_far; children = a.children; alike = all; goes = a.goes; holds = holds_one k.target.place name t.reserved t'.reserved rs r a.holds at named added; steps = a.steps }))

  pub asked_refer : (making : Making K) (waiting waiting' : Waiting K) (told told' : Told) (es : Children) (keys keys' keys'' : List (Key S)) (nodes nodes' nodes'' : List (NodeEntry C)) {t t' t'' : Table S C} (text : String Global) (o : Option NodeEdge) (n : ℕ)
      → Asked making waiting told es keys keys' nodes nodes' t t' → TakesTurn shape waiting told (Refer text) waiting' → n ≡ length es → told' ≡ answers o n
      → LeadsTo w keys'' o (reference_asked w k name to_ref (string_bytes text)) → Goes given t' t'' (option_list (reference_asked w k name to_ref (string_bytes text))) (option_list o)
      → IsStep w shape limit (option_list (reference_asked w k name to_ref (string_bytes text))) (lookup_causes w (found w k to_ref (string_bytes text))) keys' keys'' nodes' nodes''
      → Asked making waiting' told' (es ++ o ∷ []) keys keys'' nodes nodes'' t t''
  asked_refer making waiting waiting' told told' es keys keys' keys'' nodes nodes' nodes'' {t} {t'} {t''} text None n a takes count is leads goes step =
      let st = refer_step shape (length a.requests) (resumed waiting told) text waiting' (due_step shape waiting told (length a.requests) (Refer text) waiting' a.due takes) in
      let self = skipped_self w k name to_ref (string_bytes text) step.clean (leads_none w keys'' _ leads) in
      subst (λ y. Asked making waiting' y (es ++ None ∷ []) keys keys'' nodes nodes'' t t'') (sym is) (asked_next making waiting waiting' told a_skip es keys keys' keys'' nodes nodes' nodes'' (refer (string_bytes text)) None a
      (ap (λ s. followed (is_self w k to_ref) s) st.2
      ∙ ap (λ b. after_request (refer (string_bytes text)) (cond b (followed (is_self w k to_ref) st.1) (followed (is_self w k to_ref) st.0))) self
      ∙ ap (λ x. after_request (refer (string_bytes text)) (followed (is_self w k to_ref) (resumed x a_skip))) (sym st.3))
      (subst (λ x. IsDue x a_skip (suc (length a.requests))) (sym st.3) refl)
      (subst (λ x. AsksAlike (resumed x a_skip)) (sym st.3) (let all : AsksAlike (then_refer (string_bytes text) st.0 st.1) = subst AsksAlike st.2 a.alike in all.1))
      leads goes step)
  asked_refer making waiting waiting' told told' es keys keys' keys'' nodes nodes' nodes'' {t} {t'} {t''} text (Some e) n a takes count is leads goes step =
      let st = refer_step shape (length a.requests) (resumed waiting told) text waiting' (due_step shape waiting told (length a.requests) (Refer text) waiting' a.due takes) in
      let same : n ≡ length a.requests = count ∙ children_length keys' es a.requests a.children in
      let self = asked_not_self w k name to_ref (string_bytes text) (leads_some w keys'' e _ leads) in
      subst (λ y. Asked making waiting' y (es ++ Some e ∷ []) keys keys'' nodes nodes'' t t'') (sym is) (asked_next making waiting waiting' told (the_number n) es keys keys' keys'' nodes nodes' nodes'' (refer (string_bytes text)) (Some e) a
      (ap (λ s. followed (is_self w k to_ref) s) st.2
      ∙ ap (λ b. after_request (refer (string_bytes text)) (cond b (followed (is_self w k to_ref) st.1) (followed (is_self w k to_ref) st.0))) self
      ∙ ap (λ x. after_request (refer (string_bytes text)) (followed (is_self w k to_ref) (resumed x (the_number n)))) (sym st.3))
      (subst (λ x. IsDue x (the_number n) (suc (length a.requests))) (sym st.3) (same, refl))
      (subst (λ x. AsksAlike (resumed x (the_number n))) (sym st.3) (let all : AsksAlike (then_refer (string_bytes text) st.0 st.1) = subst AsksAlike st.2 a.alike in all.0))
      leads goes step)

  -- ---- how a maker ends

  ended_by : (making : Making K) (waiting : Waiting K) (told : Told) (es : Children) (keys keys' : List (Key S)) (nodes nodes' : List (NodeEntry C)) {t t' : Table S C} (m : Made K)
      → (a : Asked making waiting told es keys keys' nodes nodes' t t') → resumed waiting told ≡ then_end m → making ≡ record { requests = a.requests; ends = m }
  ended_by making waiting told es keys keys' nodes nodes' m a e =
      a.so_far ∙ ap (λ s. after a.requests (left_of s)) e ∙ ap (λ rs. record { requests = rs; ends = m }) (append-nil a.requests)

  pub made_step : (making : Making K) (waiting : Waiting K) (told : Told) (es : Children) (keys keys' : List (Key S)) (nodes nodes' : List (NodeEntry C)) {t t' : Table S C} (m : Made K)
      → Asked making waiting told es keys keys' nodes nodes' t t' → resumed waiting told ≡ then_end m → end_causes w m ≡ []
      → IsStep w shape limit (maker_edges w k name making) (maker_causes w k making) keys keys' nodes nodes'
  made_step making waiting told es keys keys' nodes nodes' m a e clean =
      subst (λ f. IsStep w shape limit (maker_edges w k name f) (maker_causes w k f) keys keys' nodes nodes') (sym (ended_by making waiting told es keys keys' nodes nodes' m a e))
      (subst (λ cs. IsStep w shape limit (edges_of a.requests) (causes_of a.requests ++ cs) keys keys' nodes nodes') (sym clean)
      (subst (λ cs. IsStep w shape limit (edges_of a.requests) cs keys keys' nodes nodes') (sym (append-nil (causes_of a.requests))) a.steps))

  pub made_goes : (making : Making K) (waiting : Waiting K) (told : Told) (es : Children) (keys keys' : List (Key S)) (nodes nodes' : List (NodeEntry C)) {t t' : Table S C} (m : Made K)
      → Asked making waiting told es keys keys' nodes nodes' t t' → resumed waiting told ≡ then_end m → (rs : List Reserved) → Reserves t.reserved rs
      → Goes given t (having t' rs) (maker_edges w k name making) (filter_map (λ (o : Option NodeEdge). o) es)
  made_goes making waiting told es keys keys' nodes nodes' {t} {t'} m a e rs reserves =
      subst (λ f. Goes given t (having t' rs) (maker_edges w k name f) (filter_map (λ (o : Option NodeEdge). o) es)) (sym (ended_by making waiting told es keys keys' nodes nodes' m a e))
      (goes_having given t (having t' t.reserved) t.reserved rs (edges_of a.requests) (filter_map (λ (o : Option NodeEdge). o) es) a.goes reserves)

  pub nothing_goes : (making : Making K) (waiting waiting' : Waiting K) (told : Told) (es : Children) (keys keys' : List (Key S)) (nodes nodes' : List (NodeEntry C)) {t t' : Table S C}
      → Asked making waiting told es keys keys' nodes nodes' t t' → TakesTurn shape waiting told Nothing waiting' → (rs : List Reserved) → Reserves t.reserved rs → Goes given t (having t' rs) (maker_edges w k name making) []
  nothing_goes making waiting waiting' told es keys keys' nodes nodes' {t} {t'} a takes rs reserves =
      let e = nothing_step shape (length a.requests) (resumed waiting told) waiting' (due_step shape waiting told (length a.requests) Nothing waiting' a.due takes) in
      goes_made given t (having t' rs) (maker_edges w k name making) (filter_map (λ (o : Option NodeEdge). o) es) [] (made_goes making waiting told es keys keys' nodes nodes' nothing a e rs reserves) tt

  pub keyword_goes : (making : Making K) (waiting waiting' : Waiting K) (told : Told) (es : Children) (keys keys' : List (Key S)) (nodes nodes' : List (NodeEntry C)) {t t' : Table S C} (m : C) (names : Vec (String Global) Global)
      → Asked making waiting told es keys keys' nodes nodes' t t' → TakesTurn shape waiting told (Keyword m names) waiting' → (rs : List Reserved) → Reserves t.reserved rs → Goes given t (having t' rs) (maker_edges w k name making) (form_edges (node_keyword m es))
  keyword_goes making waiting waiting' told es keys keys' nodes nodes' {t} {t'} m names a takes rs reserves =
      let e = keyword_step shape (length a.requests) (resumed waiting told) m names waiting' (due_step shape waiting told (length a.requests) (Keyword m names) waiting' a.due takes) in
      made_goes making waiting told es keys keys' nodes nodes' _ a e rs reserves

  pub made_nothing : (making : Making K) (waiting waiting' : Waiting K) (told : Told) (es : Children) (keys keys' : List (Key S)) (nodes nodes' : List (NodeEntry C)) {t t' : Table S C} (priority : ℕ) (leaf : Bool)
      → (a : Asked making waiting told es keys keys' nodes nodes' t t') → TakesTurn shape waiting told Nothing waiting'
      → IsStep w shape limit (maker_edges w k name making) (maker_causes w k making) keys keys' nodes nodes' × IsMadePart w keys' shape k None (part_made w name priority leaf making)
  made_nothing making waiting waiting' told es keys keys' nodes nodes' priority leaf a takes =
      let e = nothing_step shape (length a.requests) (resumed waiting told) waiting' (due_step shape waiting told (length a.requests) Nothing waiting' a.due takes) in (
        made_step making waiting told es keys keys' nodes nodes' nothing a e refl,
        subst (λ f. IsMadePart w keys' shape k None (part_made w name priority leaf f)) (sym (ended_by making waiting told es keys keys' nodes nodes' nothing a e)) tt,
      )

  pub made_keyword : (making : Making K) (waiting waiting' : Waiting K) (told : Told) (es : Children) (keys keys' : List (Key S)) (nodes nodes' : List (NodeEntry C)) {t t' : Table S C} (priority : ℕ) (leaf : Bool) (m : C) (names : Vec (String Global) Global)
      → (a : Asked making waiting told es keys keys' nodes nodes' t t') → TakesTurn shape waiting told (Keyword m names) waiting'
      → IsStep w shape limit (maker_edges w k name making) (maker_causes w k making) keys keys' nodes nodes'
      × IsMadePart w keys' shape k (Some (record { name = name; priority = priority; is_leaf = leaf; form = node_keyword m es })) (part_made w name priority leaf making)
  made_keyword making waiting waiting' told es keys keys' nodes nodes' priority leaf m names a takes =
      let e = keyword_step shape (length a.requests) (resumed waiting told) m names waiting' (due_step shape waiting told (length a.requests) (Keyword m names) waiting' a.due takes) in (
        made_step making waiting told es keys keys' nodes nodes' _ a e refl,
        subst (λ f. IsMadePart w keys' shape k (Some (record { name = name; priority = priority; is_leaf = leaf; form = node_keyword m es })) (part_made w name priority leaf f)) (sym (ended_by making waiting told es keys keys' nodes nodes' _ a e))
            (record { name = refl; priority = refl; is_leaf = refl; form = (refl, a.children) }),
      )

  -- ---- the names that the keyword absorbs

  pub absorbed_nothing : (making : Making K) (waiting waiting' : Waiting K) (told : Told) (es : Children) (keys keys' : List (Key S)) (nodes nodes' : List (NodeEntry C)) {t t' : Table S C} (priority : ℕ) (leaf : Bool)
      → (a : Asked making waiting told es keys keys' nodes nodes' t t') → TakesTurn shape waiting told Nothing waiting' → absorbed_by (part_made w name priority leaf making) ≡ []
  absorbed_nothing making waiting waiting' told es keys keys' nodes nodes' priority leaf a takes =
      let e = nothing_step shape (length a.requests) (resumed waiting told) waiting' (due_step shape waiting told (length a.requests) Nothing waiting' a.due takes) in
      ap (λ f. absorbed_by (part_made w name priority leaf f)) (ended_by making waiting told es keys keys' nodes nodes' nothing a e)

  pub absorbed_keyword : (making : Making K) (waiting waiting' : Waiting K) (told : Told) (es : Children) (keys keys' : List (Key S)) (nodes nodes' : List (NodeEntry C)) {t t' : Table S C} (priority : ℕ) (leaf : Bool) (m : C) (names : Vec (String Global) Global)
      → (a : Asked making waiting told es keys keys' nodes nodes' t t') → TakesTurn shape waiting told (Keyword m names) waiting' → absorbed_by (part_made w name priority leaf making) ≡ map string_bytes names.items
  absorbed_keyword making waiting waiting' told es keys keys' nodes nodes' priority leaf m names a takes =
      let e = keyword_step shape (length a.requests) (resumed waiting told) m names waiting' (due_step shape waiting told (length a.requests) (Keyword m names) waiting' a.due takes) in
      ap (λ f. absorbed_by (part_made w name priority leaf f)) (ended_by making waiting told es keys keys' nodes nodes' _ a e)

  -- ---- refusals meanwhile

  pub ask_refused : (making : Making K) (waiting : Waiting K) (told : Told) (es : Children) (keys keys' : List (Key S)) (nodes nodes' : List (NodeEntry C)) {t t' : Table S C} (r : Request) (f : Making K) (e : BuildError)
      → Asked making waiting told es keys keys' nodes nodes' t t' → followed (is_self w k to_ref) (resumed waiting told) ≡ after_request r f
      → Refused w limit (option_list (requested w k name r)) (request_causes w k r) keys' e → Refused w limit (maker_edges w k name making) (maker_causes w k making) keys e
  ask_refused making waiting told es keys keys' nodes nodes' r f e a is h =
      let rest : Making K = cond (is_refused w k r) stopped (until f) in
      let causes = request_causes w k r ++ (causes_of rest.requests ++ end_causes w rest.ends) in
      let later = refused_later w shape limit (edges_of a.requests) (option_list (requested w k name r) ++ edges_of rest.requests) (causes_of a.requests) causes keys keys' nodes nodes' e a.steps
      (refused_first w (option_list (requested w k name r)) (edges_of rest.requests) (request_causes w k r) (causes_of rest.requests ++ end_causes w rest.ends) limit keys' e h) in
      let more : edges_of (r ∷ rest.requests) ≡ option_list (requested w k name r) ++ edges_of rest.requests = filter_map-append (requested w k name) (r ∷ []) rest.requests ∙ ap (λ xs. xs ++ edges_of rest.requests) (filter_map-one (requested w k name) r) in
      let all : edges_of (a.requests ++ r ∷ rest.requests) ≡ edges_of a.requests ++ (option_list (requested w k name r) ++ edges_of rest.requests) = filter_map-append (requested w k name) a.requests (r ∷ rest.requests) ∙ ap (λ xs. edges_of a.requests ++ xs) more in
      let own : causes_of (a.requests ++ r ∷ rest.requests) ++ end_causes w rest.ends ≡ causes_of a.requests ++ causes
      = ap (λ xs. xs ++ end_causes w rest.ends) (flat_map-append (request_causes w k) a.requests (r ∷ rest.requests)) ∙ append_assoc (causes_of a.requests) (causes_of (r ∷ rest.requests)) (end_causes w rest.ends)
      ∙ ap (λ xs. causes_of a.requests ++ xs) (append_assoc (request_causes w k r) (causes_of rest.requests) (end_causes w rest.ends)) in
      subst (λ m. Refused w limit (maker_edges w k name m) (maker_causes w k m) keys e) (sym (a.so_far ∙ ap (λ m. after a.requests (until m)) is))
      (subst (λ xs. Refused w limit xs (causes_of (a.requests ++ r ∷ rest.requests) ++ end_causes w rest.ends) keys e) (sym all)
      (subst (λ xs. Refused w limit (edges_of a.requests ++ (option_list (requested w k name r) ++ edges_of rest.requests)) xs keys e) (sym own) later))

  pub compile_refused : (making : Making K) (waiting waiting' : Waiting K) (told : Told) (es : Children) (keys keys' : List (Key S)) (nodes nodes' : List (NodeEntry C)) {t t' : Table S C} (path : Place) (e : BuildError)
      → Asked making waiting told es keys keys' nodes nodes' t t' → TakesTurn shape waiting told (Compile path) waiting'
      → Refused w limit (option_list (subschema w k path)) (request_causes w k (compile path)) keys' e → Refused w limit (maker_edges w k name making) (maker_causes w k making) keys e
  compile_refused making waiting waiting' told es keys keys' nodes nodes' path e a takes h =
      let st = compile_step shape (length a.requests) (resumed waiting told) path waiting' (due_step shape waiting told (length a.requests) (Compile path) waiting' a.due takes) in
      ask_refused making waiting told es keys keys' nodes nodes' (compile path) _ e a (ap (λ s. followed (is_self w k to_ref) s) st.1) h

  pub refer_refused : (making : Making K) (waiting waiting' : Waiting K) (told : Told) (es : Children) (keys keys' : List (Key S)) (nodes nodes' : List (NodeEntry C)) {t t' : Table S C} (text : String Global) (e : BuildError)
      → Asked making waiting told es keys keys' nodes nodes' t t' → TakesTurn shape waiting told (Refer text) waiting'
      → Refused w limit (option_list (reference_asked w k name to_ref (string_bytes text))) (lookup_causes w (found w k to_ref (string_bytes text))) keys' e → Refused w limit (maker_edges w k name making) (maker_causes w k making) keys e
  refer_refused making waiting waiting' told es keys keys' nodes nodes' text e a takes h =
      let st = refer_step shape (length a.requests) (resumed waiting told) text waiting' (due_step shape waiting told (length a.requests) (Refer text) waiting' a.due takes) in
      ask_refused making waiting told es keys keys' nodes nodes' (refer (string_bytes text)) _ e a (ap (λ s. followed (is_self w k to_ref) s) st.2) h

  pub maker_refused : (making : Making K) (waiting waiting' : Waiting K) (told : Told) (es : Children) (keys keys' : List (Key S)) (nodes nodes' : List (NodeEntry C)) {t t' : Table S C} (error : OwnedError)
      → Asked making waiting told es keys keys' nodes nodes' t t' → TakesTurn shape waiting told (Refuse error) waiting'
      → Refused w limit (maker_edges w k name making) (maker_causes w k making) keys (KeywordRefused error)
  maker_refused making waiting waiting' told es keys keys' nodes nodes' error a takes =
      let st = refuse_step shape (length a.requests) (resumed waiting told) error waiting' (due_step shape waiting told (length a.requests) (Refuse error) waiting' a.due takes) in
      subst (λ f. Refused w limit (maker_edges w k name f) (maker_causes w k f) keys (KeywordRefused error)) (sym (ended_by making waiting told es keys keys' nodes nodes' (refused st.0 st.1) a st.2))
      (st.0, inl (inl (in_right (causes_of a.requests) (keyword_refused st.0 (told_error st.0 st.1) ∷ []) _ (inl (ap (keyword_refused st.0) (sym st.3))))))
