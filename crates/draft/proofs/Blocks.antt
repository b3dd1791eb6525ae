-- A block from its parts.
use Rattle.std.proofs.Common.{◌≡◌, ℕ, zero, suc, ◌+◌, ◌*◌, List, [], ◌∷◌, length, get_or, Ok, Err, sym, refl, ap, ◌∙◌, subst, add_assoc, arith}
use Rattle.draft.specs.declared.fault.ReadFault.{ReadFault}
use Rattle.draft.specs.declared.source.Source.{Source}
use Rattle.values.specs.declared.scalar.Value.{Value}
use Rattle.values.specs.declared.scalar.ValueType.{ValueType}
use Rattle.draft.specs.Format.{Format, bind, then, times, read_all, size_all}
use Rattle.draft.specs.File.{block_head, block_name, block_params, block_rest, to_block, from_block, block_format, source_format, param_format, padding_format, name_byte, type_format, columns_format}
use Rattle.draft.proofs.Binds.{bind_ok}
use Rattle.draft.proofs.Loops.{then_ok, via_ok, via_fails, then_fails, then_after}

pub four : {A : Type 0} (xs : List A) (d : A) → length xs ≡ 4 → get_or xs 0 d ∷ get_or xs 1 d ∷ get_or xs 2 d ∷ get_or xs 3 d ∷ [] ≡ xs
four [] d h = absurd (omega arith)
four (a ∷ []) d h = absurd (omega arith)
four (a ∷ b ∷ []) d h = absurd (omega arith)
four (a ∷ b ∷ c ∷ []) d h = absurd (omega arith)
four (a ∷ b ∷ c ∷ e ∷ []) d h = refl
four (a ∷ b ∷ c ∷ e ∷ f ∷ xs) d h = absurd (omega arith)

pub read_all_length : {A : Type 0} (F : Format A) (n : ℕ) (file : List ℕ) (p : ℕ) (xs : List A) → read_all F n file p ≡ Ok xs → length xs ≡ n
read_all_length F zero file p xs h = let e : [] ≡ xs = cc in ap length (sym e)
read_all_length F (suc n) file p xs h =
    let r = bind_ok (F.read file p) _ xs h in
    let s = bind_ok (read_all F n file (p + F.size p r.0)) _ xs r.2 in
    let e : r.0 ∷ s.0 ≡ xs = cc s.2 in
    ap length (sym e) ∙ ap suc (read_all_length F n file (p + F.size p r.0) s.0 s.1)

pub size_all_names : (p : ℕ) (xs : List ℕ) → size_all name_byte p xs ≡ 8 * length xs
size_all_names p [] = refl
size_all_names p (x ∷ xs) = ap (λ n. 8 + n) (size_all_names (p + 8) xs) ∙ omega arith

pub size_all_sources : (p : ℕ) (xs : List Source) → size_all source_format p xs ≡ 8 * length xs
size_all_sources p [] = refl
size_all_sources p (x ∷ xs) = ap (λ n. 8 + n) (size_all_sources (p + 8) xs) ∙ omega arith

pub size_all_types : (p : ℕ) (ts : List ValueType) → size_all type_format p ts ≡ 2 * length ts
size_all_types p [] = refl
size_all_types p (t ∷ ts) = ap (λ n. 2 + n) (size_all_types (p + 2) ts) ∙ omega arith

-- a block whose head is read
module _ (file : List ℕ) (p k ni np nl : ℕ) (h1 : block_head.read file p ≡ Ok (k, (ni, (np, nl)))) where
  after_head : {e : ReadFault} → (block_rest (k, (ni, (np, nl)))).read file (p + 16) ≡ Err e → block_format.read file p ≡ Err e
  after_head h = via_fails {file = file} {p = p} to_block from_block (then block_head block_rest) (then_after block_head block_rest h1 h)

  pub sources_fail : {e : ReadFault} → read_all source_format ni file (p + 16) ≡ Err e → block_format.read file p ≡ Err e
  sources_fail h = after_head (then_fails (times ni source_format) (λ _. block_params np nl) h)

  module _ (xs : List Source) (q2 : ℕ) (h2 : (read_all source_format ni file (p + 16) ≡ Ok xs) × (q2 ≡ p + 16 + size_all source_format (p + 16) xs)) where
    pub params_fail : {e : ReadFault} → read_all param_format np file q2 ≡ Err e → block_format.read file p ≡ Err e
    params_fail {e} h =
        after_head (then_after (times ni source_format) (λ _. block_params np nl) h2.0
        (then_fails (times np param_format) (λ _. block_name nl) (subst (λ q. read_all param_format np file q ≡ Err e) h2.1 h)))

    module _ (ps : List Value) (q3 : ℕ) (h3 : (read_all param_format np file q2 ≡ Ok ps) × (q3 ≡ q2 + size_all param_format q2 ps)) where
      after_params : {e : ReadFault} → (block_name nl).read file q3 ≡ Err e → block_format.read file p ≡ Err e
      after_params {e} h =
          let params = then_after (times np param_format) (λ _. block_name nl) h3.0 (subst (λ q. (block_name nl).read file q ≡ Err e) h3.1 h) in
          after_head (then_after (times ni source_format) (λ _. block_params np nl) h2.0 (subst (λ q. (block_params np nl).read file q ≡ Err e) h2.1 params))

      pub padding_fails : {e : ReadFault} → padding_format.read file q3 ≡ Err e → block_format.read file p ≡ Err e
      padding_fails h = after_params (then_fails {file = file} {p = q3} padding_format (λ _. times nl name_byte) h)

      module _ (q4 : ℕ) (h4 : (padding_format.read file q3 ≡ Ok tt) × (q4 ≡ q3 + padding_format.size q3 tt)) where
        pub name_fails : {e : ReadFault} → read_all name_byte nl file q4 ≡ Err e → block_format.read file p ≡ Err e
        name_fails {e} h = after_params (then_after {file = file} {p = q3} padding_format (λ _. times nl name_byte) h4.0 (subst (λ q. read_all name_byte nl file q ≡ Err e) h4.1 h))

        pub block_ok : (nm : List ℕ) → read_all name_byte nl file q4 ≡ Ok nm → (block_format.read file p ≡ Ok (record { kind = k; sources = xs; params = ps; name = nm })) × (q4 + 8 * nl ≡ p + block_format.size p (record { kind = k; sources = xs; params = ps; name = nm }))
        block_ok nm h5 =
            let Q2 = p + 16 + size_all source_format (p + 16) xs in
            let Q3 = Q2 + size_all param_format Q2 ps in
            let e3 : q3 ≡ Q3 = h3.1 ∙ (λ i. h2.1 i + size_all param_format (h2.1 i) ps) in
            let e4 : q4 ≡ Q3 + padding_format.size Q3 tt = h4.1 ∙ (λ i. e3 i + padding_format.size (e3 i) tt) in
            let name = then_ok padding_format (λ _. times nl name_byte) h4.0 (subst (λ q. read_all name_byte nl file q ≡ Ok nm) h4.1 h5) in
            let params = then_ok (times np param_format) (λ _. block_name nl) h3.0 (subst (λ q. (block_name nl).read file q ≡ Ok (tt, nm)) h3.1 name) in
            let sources = then_ok (times ni source_format) (λ _. block_params np nl) h2.0 (subst (λ q. (block_params np nl).read file q ≡ Ok (ps, (tt, nm))) h2.1 params) in (
              via_ok {file = file} {p = p} to_block from_block (then block_head block_rest) (then_ok block_head block_rest h1 sources),
              omega (arith, e3, e4, size_all_names (Q3 + padding_format.size Q3 tt) nm, read_all_length name_byte nl file q4 nm h5),
            )

pub eight : {A : Type 0} (xs : List A) (d : A) → length xs ≡ 8 → get_or xs 0 d ∷ get_or xs 1 d ∷ get_or xs 2 d ∷ get_or xs 3 d ∷ get_or xs 4 d ∷ get_or xs 5 d ∷ get_or xs 6 d ∷ get_or xs 7 d ∷ [] ≡ xs
eight (a ∷ b ∷ c ∷ e ∷ xs) d h =
    ap (λ l. a ∷ b ∷ c ∷ e ∷ l) (four xs d (omega arith))
eight [] d h = absurd (omega arith)
eight (a ∷ []) d h = absurd (omega arith)
eight (a ∷ b ∷ []) d h = absurd (omega arith)
eight (a ∷ b ∷ c ∷ []) d h = absurd (omega arith)

pub columns_ok : (file : List ℕ) (p n q r : ℕ) (ts : List ValueType) → read_all type_format n file p ≡ Ok ts → q ≡ p + size_all type_format p ts → padding_format.read file q ≡ Ok tt → r ≡ q + padding_format.size q tt → ((columns_format n).read file p ≡ Ok ts) × (r ≡ p + (columns_format n).size p ts)
columns_ok file p n q r ts h e k f =
    let both = then_ok {file = file} {p = p} (times n type_format) (λ _. padding_format) h (subst (λ m. padding_format.read file m ≡ Ok tt) e k) in (
      ap (λ t. bind t (λ x. Ok x.0)) both,
      f ∙ (λ i. e i + padding_format.size (e i) tt) ∙ add_assoc p (size_all type_format p ts) (padding_format.size (p + size_all type_format p ts) tt),
    )
