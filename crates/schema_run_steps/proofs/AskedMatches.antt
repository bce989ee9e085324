-- The match that a step asks for which is one of the two that do.
use Rattle.std.proofs.Common.{◌≡◌, ◌⊎◌, Bool, Bor, ap, inl, inr, string_bytes}
use Rattle.theory_definitions.specs.Instance.{Text}
use Rattle.theory_definitions.specs.Keywords.{MatchPoint, Turn, match_text}
use Rattle.theory_definitions.specs.Matching.{Pair}
use Rattle.schema_traits.specs.KeywordViews.{keyword_point, spot_point, turn_of}
use Rattle.schema_traits.specs.declared.keyword.Below.{Below}
use Rattle.schema_traits.specs.declared.keyword.SpotMatch.{SpotMatch}
use Rattle.schema_traits.specs.declared.keyword.Step as step_module
use Rattle.schema_traits.specs.declared.keyword.Step.TheVariants as step

-- this turn asks for a match
abbrev pub Asks : Turn → Type 0
Asks t = (a : Pair) × (p : MatchPoint) × (t ≡ match_text a p)

pub step_asks : (s : step_module.Step)
    → ((pattern : Bor Text) × (subject : Bor Text) × (located : Bool) × (s ≡ step.Match pattern subject located))
    ⊎ ((m : Bor SpotMatch) × (subject : Bor Text) × (below : Below) × (s ≡ step.MatchAt m subject below)) → Asks (turn_of s)
step_asks s (inl (pattern, subject, located, e)) = (record { pattern = pattern.now; subject = subject.now }, keyword_point pattern.now located, ap turn_of e)
step_asks s (inr (m, subject, below, e)) = (record { pattern = string_bytes m.now.pattern; subject = subject.now }, spot_point m.now.located m.now.spot below, ap turn_of e)
