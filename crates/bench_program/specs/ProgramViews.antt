-- The arguments as the program holds them, apart from its memory.
use Rattle.std.specs.Prelude.{List, map, ℕ}
use Rattle.std.specs.declared.alloc.Global.{Global}
use Rattle.std.specs.declared.vec.Vec.{Vec}
use Rattle.theory_definitions.specs.Instance.{Text}
use Rattle.bench_program.specs.declared.program.requests.Words.{Words}
use Rattle.bench_program.specs.ProgramWords.{FourWords}

abbrev pub texts : List (Vec ℕ Global) → List Text
texts vs = map (λ v. v.items) vs

abbrev pub words_of : Words → FourWords
words_of w = record { mode = w.mode.now; schema = w.schema.now; instance = w.instance.now; unfinished = w.unfinished.now }
