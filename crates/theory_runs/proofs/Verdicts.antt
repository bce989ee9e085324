-- What a reply that is a verdict says, if the verdict is wanted.
use Rattle.std.proofs.Common.{◌≡◌, ◌∙◌, ◌≤◌, ◌&&◌, ℕ, Bool, true, List, refl, sym, ap, subst}
use Rattle.std.proofs.lemmas.List.Elements.{All-nil}
use Rattle.std.specs.Prelude.{Option}
use Rattle.theory_definitions.specs.Instance.{Place, Subject, Text}
use Rattle.theory_definitions.specs.Reports.{Outcome, accepted}
use Rattle.theory_definitions.specs.Keywords.{Keywords, Mode, for_all, for_first, for_units, for_verdict, truth}
use Rattle.theory_definitions.specs.Matching.{matching}
use Rattle.theory_definitions.specs.Guarded.{Children, Nodes, node_keyword}
use Rattle.theory_meaning.specs.Numbered.{left}
use Rattle.schema_reports.specs.ReportViews.{BorrowsItsPlace}
use Rattle.schema_run_context.specs.Matches.{Settling}
use Rattle.schema_traits.specs.KeywordViews.{reply_of}
use Rattle.schema_traits.specs.declared.keyword.Reply.TheVariants as told
use Rattle.schema_run_steps.specs.ReplyModes.{Joins, Stamps, reply_by}
use Rattle.schema_run_steps.specs.NodeRuns.{FormReplies, Reading, Reads, Replies, child_says}
use Rattle.schema_run_steps.proofs.NodeRuns.{stands_in}

-- A yes does not change a verdict that it is joined with.
pub joins_verdict : (b texts : Bool) → Joins (reply_of texts (told.Truth true)) (reply_of texts (told.Truth b)) (reply_of texts (told.Truth b))
joins_verdict b texts for_verdict o o' e e' = let yes : true ≡ o.verdict = cc in e' ∙ ap (λ v. truth (v && o'.verdict)) yes
joins_verdict b texts for_first o o' e e' = absurd (cc e)
joins_verdict b texts for_all o o' e e' = absurd (cc e)
joins_verdict b texts for_units o o' e e' = absurd (cc e)

-- A verdict has no errors to stamp.
pub stamps_verdict : (location : Option Text) (b texts : Bool) → Stamps location (reply_of texts (told.Truth b)) (reply_of texts (told.Truth b))
stamps_verdict location b texts for_verdict o e = e
stamps_verdict location b texts for_first o e = absurd (cc e)
stamps_verdict location b texts for_all o e = absurd (cc e)
stamps_verdict location b texts for_units o e = absurd (cc e)

module _ (mode : Mode) (wanted : mode ≡ for_verdict) where
  -- It says the same as an outcome with that verdict.
  verdict_says : (b : Bool) (o : Outcome) → b ≡ o.verdict → truth b ≡ reply_by mode o
  verdict_says b o h = subst (λ m. truth b ≡ reply_by m o) (sym wanted) (ap truth h)

  pub yes_says : (texts : Bool) → reply_of texts (told.Truth true) ≡ reply_by mode accepted
  yes_says texts = verdict_says true accepted refl

  pub verdict_replies : (x : Reading) (b : Bool) (o : Outcome) → b ≡ o.verdict → Replies x mode (told.Truth b) o
  verdict_replies x b o h = record { same = verdict_says b o h; borrows = All-nil (BorrowsItsPlace x.root) }

  -- A keyword whose verdict is whether it holds.
  pub keyword_replies : {K R : Type 0} (words : Bool → Keywords K R) (is_whole : K → Bool) (nodes : Nodes K) (count : ℕ) (w : Settling) (path : Text) (p : Place) (busy : List ℕ) (s : Subject) (i : ℕ) (name : Text) (m : K) (es : Children) (b : Bool)
      → ((x : Reading) → Reads is_whole nodes count w p s x → left nodes count i s busy ≤ x.depth → b ≡ (words x.texts).holds m s (matching x.matcher x.completion) (λ q. (child_says words nodes x path p busy es q).verdict))
      → FormReplies words is_whole nodes count w mode path p busy s i name (node_keyword m es) (told.Truth b)
  keyword_replies words is_whole nodes count w path p busy s i name m es b h x reads l =
      let answers = child_says words nodes x path p busy es in
      verdict_replies x b _ (h x reads l ∙ ap (λ v. (words x.texts).holds m v (matching x.matcher x.completion) (λ q. (answers q).verdict)) (sym (stands_in x.root p s reads.stands)))
