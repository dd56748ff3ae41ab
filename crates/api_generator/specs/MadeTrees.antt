-- The trees that the generator makes from a seed and a size: their files, line by line.
-- Own: the generator.
use Rattle.std.specs.Prelude.{ℕ, zero, suc, ◌+◌, ◌*◌, ◌%◌, ◌==◌, if◌then◌else◌, List, [], ◌∷◌, ◌++◌, codes, decimal}
use Rattle.go_outside.specs.MemoryFiles.{contents_of}
use Rattle.go_outside.specs.Stores.{Contents}
use Rattle.go_outside.specs.declared.memory_files.FilePair.{FilePair}

abbrev pub file_at : List ℕ → ℕ → List ℕ → FilePair
file_at root n bytes = record { path = root ++ codes "/p" ++ decimal n ++ codes "/a.go"; bytes = bytes }

abbrev pub module_file : List ℕ → FilePair
module_file root = record { path = root ++ codes "/go.mod"; bytes = codes "module g\n" }

module _ (seed : ℕ) where
  -- a number below 1,000,003 for the package of a number, drawn for a purpose
  abbrev pub draw : ℕ → ℕ → ℕ
  draw n purpose = ((seed % 1000003) * 7919 + n * 104729 + purpose * 1299709) % 1000003

  -- the earlier package that a package imports, where it isn't the first
  abbrev pub imported : ℕ → ℕ
  imported n = draw n 1 % n

  -- the type that a package uses: that of the imported one, and `int` in the first
  abbrev pub used_type : ℕ → List ℕ
  used_type zero = codes "int"
  used_type (suc n) = codes "p" ++ decimal (imported (suc n)) ++ codes ".T"

  abbrev pub import_line : ℕ → List ℕ
  import_line zero = []
  import_line (suc n) = codes "import \"g/p" ++ decimal (imported (suc n)) ++ codes "\"\n"

  -- the package, what it imports, and its constant
  abbrev pub head_lines : ℕ → List ℕ
  head_lines n = codes "package p" ++ decimal n ++ codes "\n" ++ import_line n ++ codes "const C = " ++ decimal n ++ codes "\n"

  -- its type, and the first method of that
  abbrev pub type_lines : ℕ → List ℕ
  type_lines n = codes "type T struct { A " ++ used_type n ++ codes "; B *" ++ used_type n ++ codes " }\nfunc (t T) M() int\n"

  abbrev pub method_line : ℕ → List ℕ
  method_line n = codes "func (t *T) N(x " ++ used_type n ++ codes ") " ++ used_type n ++ codes "\n"

  -- the lines that the old and the new file of a package have in common
  unfoldable pub first_lines : ℕ → List ℕ
  first_lines n = head_lines n ++ type_lines n

  unfoldable pub old_file : ℕ → List ℕ
  old_file n = first_lines n ++ method_line n

  -- what the new file has in place of the last line, by a number below 4
  abbrev pub last_lines : ℕ → ℕ → List ℕ
  last_lines n drawn =
      if drawn == 1 then method_line n ++ codes "func F()\n"
      else (if drawn == 2 then method_line n ++ codes "var hidden int\n" else (if drawn == 3 then [] else method_line n))

  unfoldable pub new_file : ℕ → List ℕ
  new_file n = first_lines n ++ last_lines n (draw n 2 % 4)

  -- the files of so many packages, the last one first
  abbrev pub package_files : ℕ → List FilePair
  package_files zero = []
  package_files (suc n) = file_at (codes "old") n (old_file n) ∷ file_at (codes "new") n (new_file n) ∷ package_files n

abbrev pub made_files : ℕ → ℕ → List FilePair
made_files seed size = module_file (codes "old") ∷ module_file (codes "new") ∷ package_files seed size

unfoldable pub made_contents : ℕ → ℕ → Contents
made_contents seed size = contents_of (made_files seed size)
