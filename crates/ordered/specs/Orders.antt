-- The orders of the keys that tables are made for. Assumes nothing.
use Rattle.std.specs.Prelude.{ℕ, Bool, true, false, cond, List, [], ◌∷◌, ◌==◌, nat_lt}
use Rattle.ordered.specs.declared.name.Name.{Name}

-- byte by byte, the first difference deciding
abbrev pub lexical : List ℕ → List ℕ → Bool
lexical [] [] = false
lexical [] (y ∷ ys) = true
lexical (x ∷ xs) [] = false
lexical (x ∷ xs) (y ∷ ys) = cond (x == y) (lexical xs ys) (nat_lt x y)

abbrev pub by_name : Name → Name → Bool
by_name x y = lexical x.bytes y.bytes
