-- The order of texts is total, and so is that of names. Assumes nothing.
use Rattle.std.specs.Prelude.{◌≡◌, ℕ, true, false, cond, List, [], ◌∷◌, nat_lt, refl}
use Rattle.std.specs.declared.cmp.Ordering.TheVariants.{Less, Equal, Greater}
use Rattle.std.specs.Ordering.{nat_cmp}
use Rattle.std.specs.Cmp.Lexicographic.{slice_cmp}
use Rattle.std.proofs.lemmas.Bool.{ltb-true, ltb-false, lt-ltb, le-ltb}
use Rattle.std.proofs.Common.{sym, ap, true≢false, arith}
use Rattle.std.proofs.lemmas.Bool.Decides.{nat_tests}
use Rattle.ordered.specs.Order.{TotalOrder, Orders}
use Rattle.ordered.specs.declared.name.Name.{Name}
use Rattle.ordered.specs.Orders.{lexical, by_name}

lexical_irreflexive : (xs : List ℕ) → lexical xs xs ≡ false
lexical_irreflexive [] = refl
lexical_irreflexive (x ∷ xs) = let h = lexical_irreflexive xs in grind (arith, nat_tests)

lexical_transitive : (xs ys zs : List ℕ) → lexical xs ys ≡ true → lexical ys zs ≡ true → lexical xs zs ≡ true
lexical_transitive [] [] zs h k = absurd (true≢false (sym h))
lexical_transitive [] (y ∷ ys) [] h k = absurd (true≢false (sym k))
lexical_transitive [] (y ∷ ys) (z ∷ zs) h k = refl
lexical_transitive (x ∷ xs) [] zs h k = absurd (true≢false (sym h))
lexical_transitive (x ∷ xs) (y ∷ ys) [] h k = absurd (true≢false (sym k))
lexical_transitive (x ∷ xs) (y ∷ ys) (z ∷ zs) h k = let t = lexical_transitive xs ys zs in grind (arith, nat_tests)

lexical_connected : (xs ys : List ℕ) → lexical xs ys ≡ false → lexical ys xs ≡ false → xs ≡ ys
lexical_connected [] [] h k = refl
lexical_connected [] (y ∷ ys) h k = absurd (true≢false h)
lexical_connected (x ∷ xs) [] h k = absurd (true≢false k)
lexical_connected (x ∷ xs) (y ∷ ys) h k =
    let e : x ≡ y = grind (arith, nat_tests) in
    let a : lexical xs ys ≡ false = grind (arith, nat_tests) in
    let b : lexical ys xs ≡ false = grind (arith, nat_tests) in
    let t = lexical_connected xs ys a b in cc

abbrev named : List ℕ → Name
named bs = record { bytes = bs }

pub by_name_total : TotalOrder by_name
by_name_total = record {
  irreflexive = λ x. lexical_irreflexive x.bytes;
  transitive = λ x y z h k. lexical_transitive x.bytes y.bytes z.bytes h k;
  connected = λ x y h k. ap named (lexical_connected x.bytes y.bytes h k);
}

lexical_answers : (xs ys : List ℕ) → slice_cmp nat_cmp xs ys ≡ cond (lexical xs ys) Less (cond (lexical ys xs) Greater Equal)
lexical_answers [] [] = refl
lexical_answers [] (y ∷ ys) = refl
lexical_answers (x ∷ xs) [] = refl
lexical_answers (x ∷ xs) (y ∷ ys) = let h = lexical_answers xs ys in grind (arith, nat_tests)

pub by_name_orders : Orders by_name (λ x y. slice_cmp nat_cmp x.bytes y.bytes)
by_name_orders = record { total = by_name_total; answers = λ x y. lexical_answers x.bytes y.bytes }

number_answers : (x y : ℕ) → nat_cmp x y ≡ cond (nat_lt x y) Less (cond (nat_lt y x) Greater Equal)
number_answers x y = grind (arith, nat_tests)

pub by_number_orders : Orders nat_lt nat_cmp
by_number_orders = record {
  total = record {
    irreflexive = λ x. le-ltb x x (omega arith);
    transitive = λ x y z h k. let p = ltb-true x y h in let q = ltb-true y z k in lt-ltb x z (omega arith);
    connected = λ x y h k. let p = ltb-false x y h in let q = ltb-false y x k in omega arith;
  };
  answers = number_answers;
}
