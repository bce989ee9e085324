-- What meta-schemas put in force, with one document more.
use Rattle.std.proofs.Common.{◌∷◌, ◌++◌, [], List}
use Rattle.std.specs.Prelude.{Option}
use Rattle.theory_definitions.specs.Drafts.{Vocabularies}
use Rattle.standard_dialects.specs.ListedVocabularies.{HoldSameIf}
use Rattle.standard_resolver.specs.Dialects.{Reading}
use Rattle.standard_resolver.specs.MetaVocabularies.{AreListedEach, listed_from}
use Rattle.standard_resolver.specs.ResolverDocuments.{Document}

pub listed_more : (reading : Reading) (ds : List Document) (lists : List (Option Vocabularies)) (d : Document) (vs : Option Vocabularies)
    → AreListedEach reading ds lists → HoldSameIf vs (listed_from reading d.value) → AreListedEach reading (ds ++ d ∷ []) (lists ++ vs ∷ [])
listed_more reading [] [] d vs h k = (k, tt)
listed_more reading (x ∷ ds) (l ∷ lists) d vs h k = (h.0, listed_more reading ds lists d vs h.1 k)
listed_more reading [] (l ∷ lists) d vs h k = absurd h
listed_more reading (x ∷ ds) [] d vs h k = absurd h
