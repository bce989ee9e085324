-- What the search over the runs of a sense says of every completion.
use Rattle.std.specs.Prelude.{Contains, None, Some, [], codes, is_some, option_map, true, unwrap_or, ◌≡◌}
use Rattle.theory_definitions.specs.Matching.{Assumptions, unfinished}
use Rattle.theory_definitions.specs.Reports.{Error}
use Rattle.theory_definitions.specs.Instance.{Text}
use Rattle.theory_definitions.specs.Runs.{Met, Site}
use Rattle.theory_definitions.specs.Keywords.{for_all}
use Rattle.theory_definitions.specs.Cover.{Call, IsRun, Sense, branch_at, mode_of}
use Rattle.theory_meaning.specs.Headline.{reason_text, shown_at}
use Rattle.theory_definitions.specs.Unfinished.{Failure, Remembered, starting}

-- A call whose further runs collect all errors, as those of all calls except `is_valid` do.
abbrev pub WantsAllLater : Call → Type 0
WantsAllLater call = (as' : Assumptions) → ¬ (as' ≡ []) → mode_of call as' ≡ for_all

-- The states that uses of a run lead to.
pub data Reaches {S T : Type 0} (Step : S → Remembered → Remembered → T → S → Type 0) (start : S) : S → Type 0 where
  here : Reaches Step start start
  next : (s : S) (given r : Remembered) (result : T) (end : S) → Reaches Step start s → Step s given r result end → Reaches Step start end

module _ (v : Sense) (call : Call) where
  -- A run under assumptions remembers the first match that the sense's run meets and does not
  -- assume, and only sites of that run.
  pub record Remembers (as' : Assumptions) (r : Remembered) : Type 0 where
    pub first : option_map (λ (f : Failure). f.met) r.unassumed ≡ branch_at v call as'
    pub reason : (f : Failure) → r.unassumed ≡ Some f → v.is_match f.met.pair.pattern f.met.pair.subject ≡ unfinished f.reason
    pub sites : (m : Met) → Contains r.located m → Contains (v.meets call as') m × (is_some m.site.located ≡ true)

  -- Each further use of the run is the run of the sense, under a list that assumes some match and
  -- under which the call runs. If it meets only matches that are assumed, its result is, as far as
  -- `view` shows, what the sense says under that list. Of the first run only what it remembers
  -- counts.
  pub record IsRunOf {S T V : Type 0} (Step : S → Remembered → Remembered → T → S → Type 0) (first : Remembered) (start : S) (view : T → V) (says : Assumptions → V) : Type 0 where
    pub assumes_none : first.assumptions ≡ []
    pub remembers_first : Remembers [] first
    pub remembers : (s : S) (as' : Assumptions) (r : Remembered) (result : T) (end : S) → Reaches Step start s → IsRun v call as' → ¬ (as' ≡ []) → Step s (starting as') r result end → Remembers as' r
    pub gives : (s : S) (as' : Assumptions) (r : Remembered) (result : T) (end : S) → Reaches Step start s → IsRun v call as' → ¬ (as' ≡ []) → Step s (starting as') r result end → r.unassumed ≡ None → view result ≡ says as'

-- The error with this text for a match that was met at this site, at the value to which the pointer
-- of the site's place leads. If the site has no evaluation path, the error has the schema path
-- instead, and its place is the root.
abbrev pub site_error : Site → Text → Error
site_error site text = let at = shown_at (unwrap_or site.located (site.schema_path, [])) in record {
  place = at.1;
  schema_path = site.schema_path;
  evaluation_path = at.0;
  absolute = None;
  name = codes "pattern";
  text = text;
}

-- The error of a failure. Its text shows the pattern as the schema writes it.
abbrev pub failure_error : Failure → Error
failure_error f = site_error f.met.site (reason_text (unwrap_or f.met.site.pattern f.met.pair.pattern) (unfinished f.reason))
