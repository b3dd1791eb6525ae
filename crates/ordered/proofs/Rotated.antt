-- One item put past the end, and then turned into its place. Assumes nothing.
use Rattle.std.proofs.Common.{◌≡◌, ℕ, ◌+◌, ◌-◌, ◌<◌, ◌≤◌, List, [], ◌∷◌, ◌++◌, length, take, drop, set, sym, ap, ◌∙◌, arith, length-append, length-drop, length-set}
use borrow.Rule.Slice.PartMut.{put_mid}
use Rattle.std.specs.List.{insert, between}
use Rattle.std.proofs.lemmas.List.{take_more_set, drop-append-le, take_at, drop_at, take-set-le, take-take, length-take-le}
use Rattle.std.proofs.lemmas.Slice.{between_is, take-put_mid}

module _ {X : Type 0} (xs : List X) (i n : ℕ) (y : X) (order : i ≤ n) (room : n < length xs) where
  tail_length : length (drop i (take n xs)) ≡ n - i
  tail_length = length-drop i (take n xs) ∙ ap (λ k. k - i) (length-take-le n xs (omega arith))

  part_is : between i (n + 1) (set xs n y) ≡ drop i (take n xs) ++ y ∷ []
  part_is =
      between_is (set xs n y) i (n + 1) ∙ ap (drop i) (take_more_set xs n y room)
      ∙ drop-append-le i (take n xs) (y ∷ []) (let l = length-take-le n xs (omega arith) in omega arith)

  part_length : length (between i (n + 1) (set xs n y)) ≡ (n - i) + 1
  part_length = ap length part_is ∙ length-append (drop i (take n xs)) (y ∷ []) ∙ ap (λ k. k + 1) tail_length

  turned : (ys : List X)
      → ys ≡ drop (length (between i (n + 1) (set xs n y)) - 1) (between i (n + 1) (set xs n y)) ++ take (length (between i (n + 1) (set xs n y)) - 1) (between i (n + 1) (set xs n y))
      → ys ≡ y ∷ drop i (take n xs)
  turned ys h =
      let m : length (between i (n + 1) (set xs n y)) - 1 ≡ n - i = omega (arith, part_length) in
      h
      ∙ ap (λ k. drop k (between i (n + 1) (set xs n y)) ++ take k (between i (n + 1) (set xs n y))) m
      ∙ ap (λ p. drop (n - i) p ++ take (n - i) p) part_is
      ∙ ap (λ d. d ++ take (n - i) (drop i (take n xs) ++ y ∷ [])) (drop_at (drop i (take n xs)) (y ∷ []) (n - i) tail_length)
      ∙ ap (λ t. (y ∷ []) ++ t) (take_at (drop i (take n xs)) (y ∷ []) (n - i) tail_length)

  pub rotated : (ys : List X)
      → ys ≡ drop (length (between i (n + 1) (set xs n y)) - 1) (between i (n + 1) (set xs n y)) ++ take (length (between i (n + 1) (set xs n y)) - 1) (between i (n + 1) (set xs n y))
      → take (n + 1) (put_mid i (n + 1 - i) (set xs n y) ys) ≡ insert (take n xs) i y
  rotated ys h =
      let t = turned ys h in
      let l : length ys ≡ (n - i) + 1 = ap length t ∙ (let u = tail_length in omega arith) in
      take-put_mid i (n + 1 - i) (set xs n y) ys (n + 1) (omega arith) (let s = length-set xs n y in omega arith)
      ∙ ap (λ f. f ++ ys) (take-set-le i xs n y order ∙ sym (take-take i n xs order))
      ∙ ap (λ z. take i (take n xs) ++ z) t
