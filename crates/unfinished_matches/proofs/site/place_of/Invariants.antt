use Rattle.std.proofs.Common.{◌≡◌, drop}
use Rattle.theory_definitions.specs.Unfinished.{site_of}
use Rattle.unfinished_matches.proofs.site.place_of.Given as goal

abbrev pub invariant-loop-i : goal.invariant-loop-i
invariant-loop-i l = site_of l.sites (record { pattern = l.pattern; subject = l.subject }) ≡ site_of (drop l.i l.sites) (record { pattern = l.pattern; subject = l.subject })
