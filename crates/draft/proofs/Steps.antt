-- The reader's steps, by what is left to read.
use Rattle.std.proofs.Common.{◌≡◌, ℕ, ◌+◌, List, [], ◌∷◌, ◌++◌, Some, None, Ok, Err, Option, Result, sym, ap, ◌∙◌, subst, inl, inr, append_assoc, append-nil, arith}
use Rattle.std.specs.List.{flat_map}
use Rattle.std.specs.Int.Digits.{AllBelowBase}
use Rattle.values.specs.declared.scalar.ValueType.{ValueType}
use Rattle.draft.specs.declared.fault.ReadFault.{ReadFault}
use Rattle.draft.specs.declared.record.Record.{Record}
use Rattle.draft.specs.declared.record.Record.TheVariants.{Header as HeaderRecord, Columns, Block}
use Rattle.draft.specs.declared.record.Stage.{Stage}
use Rattle.draft.specs.declared.record.Stage.TheVariants.{Start, Types, Blocks}
use Rattle.draft.specs.Bits.{bits_of}
use Rattle.draft.specs.Format.{bind}
use Rattle.draft.specs.File.{BlockOf, DraftOf, read_file}
use Rattle.draft.specs.Reading.{HandsOut, Refuses}
use Rattle.draft.specs.Records.{block_of, columns_of}
use Rattle.draft.specs.Runs.{columns_in, blocks_in, Run, RunsReadTheFile, TellsTheSameAgain, Fit}
use Rattle.draft.proofs.Rests.{header_from, columns_from, blocks_from, from_start, header_more, header_fails, columns_more, columns_fail, block_more, block_fails, blocks_end, blocks_over}
use Rattle.draft.proofs.Whole.{block_exact}

abbrev pub rest : List ℕ → Stage → ℕ → List ValueType → List BlockOf → Result DraftOf ReadFault
rest file Start p cs bs = header_from file p cs bs
rest file (Types h) p cs bs = columns_from file h p cs bs
rest file (Blocks n) p cs bs = blocks_from file n p cs bs

-- how many records are to come, at most
abbrev pub left : Stage → ℕ
left Start = 0x1_0000
left (Types h) = 1 + h.blocks
left (Blocks n) = n

module _ (file : List ℕ) (p : ℕ) (cs : List ValueType) (bs : List BlockOf) where
  pub rest_more : (st : Stage) (r : Record) (st' : Stage) (q : ℕ) → HandsOut file st p (Some r) st' q → rest file st p cs bs ≡ rest file st' q (cs ++ columns_in r) (bs ++ blocks_in r)
  rest_more Start (HeaderRecord h) st' q t =
      header_more file p cs bs h t.0 ∙ (λ i. rest file (sym t.1 i) (sym t.2 i) (sym (append-nil cs) i) (sym (append-nil bs) i))
  rest_more Start (Columns c) st' q t = absurd t
  rest_more Start (Block b) st' q t = absurd t
  rest_more (Types h) (HeaderRecord g) st' q t = absurd t
  rest_more (Types h) (Columns c) st' q t =
      columns_more file p h cs bs (columns_of c) t.0 ∙ (λ i. rest file (sym t.1 i) (sym t.2 i) (cs ++ columns_of c) (sym (append-nil bs) i))
  rest_more (Types h) (Block b) st' q t = absurd t
  rest_more (Blocks n) (HeaderRecord g) st' q t = absurd t
  rest_more (Blocks n) (Columns c) st' q t = absurd t
  rest_more (Blocks n) (Block b) st' q t =
      block_more file p cs bs n (block_of b) t.0 t.1 ∙ (λ i. rest file (sym t.2 i) (sym t.3 i) (sym (append-nil cs) i) (bs ++ block_of b ∷ []))

  pub rest_end : (st st' : Stage) (q : ℕ) → HandsOut file st p None st' q → rest file st p cs bs ≡ Ok (record { columns = cs; blocks = bs })
  rest_end Start st' q t = absurd t
  rest_end (Types h) st' q t = absurd t
  rest_end (Blocks n) st' q t = blocks_end file p cs bs n t.0 t.1

  pub rest_fails : (st : Stage) (e : ReadFault) → Refuses file st p e → rest file st p cs bs ≡ Err e
  rest_fails Start e t = header_fails file p cs bs e t
  rest_fails (Types h) e t = columns_fail file p h cs bs e t
  rest_fails (Blocks n) e (inl t) = block_fails file p cs bs n e t.0 t.1
  rest_fails (Blocks n) e (inr t) = blocks_over file p cs bs n t.0 t.1 ∙ ap Err (sym t.2)

pub run_rest : (file : List ℕ) (st : Stage) (p : ℕ) (cs : List ValueType) (bs : List BlockOf) (rs : List Record) (end : Result (Unit {0}) ReadFault) → Run file st p rs end → rest file st p cs bs ≡ bind end (λ _. Ok (record { columns = cs ++ flat_map columns_in rs; blocks = bs ++ flat_map blocks_in rs }))
run_rest file st p cs bs [] (Ok _) t =
    rest_end file p cs bs st t.0 t.1 t.2 ∙ (λ i. Ok (record { columns = sym (append-nil cs) i; blocks = sym (append-nil bs) i }))
run_rest file st p cs bs [] (Err e) t = rest_fails file p cs bs st e t
run_rest file st p cs bs (r ∷ rs) end t =
    rest_more file p cs bs st r t.0 t.1 t.2
    ∙ run_rest file t.0 t.1 (cs ++ columns_in r) (bs ++ blocks_in r) rs end t.3
    ∙ ap (bind end) (λ i _. Ok (record { columns = append_assoc cs (columns_in r) (flat_map columns_in rs) i; blocks = append_assoc bs (blocks_in r) (flat_map blocks_in rs) i }))

pub runs_read : RunsReadTheFile
runs_read bytes rs end t = from_start bytes ∙ run_rest (bits_of bytes) Start 0 [] [] rs end t

-- a fault and a value are not read at one place
never : {A : Type 0} (r : Result A ReadFault) (a : A) (e : ReadFault) → r ≡ Ok a → r ≡ Err e → ⊥
never r a e h k = let z : ◌≡◌ {A = ℕ} 0 1 = cc in omega arith

hands_nothing : (file : List ℕ) (st : Stage) (p : ℕ) (e : ReadFault) (o : Option Record) (st' : Stage) (q : ℕ) → Refuses file st p e → HandsOut file st p o st' q → ⊥
hands_nothing file Start p e (Some (HeaderRecord h)) st' q r t = never _ h e t.0 r
hands_nothing file Start p e (Some (Columns c)) st' q r t = t
hands_nothing file Start p e (Some (Block b)) st' q r t = t
hands_nothing file Start p e None st' q r t = t
hands_nothing file (Types h) p e (Some (Columns c)) st' q r t = never _ (columns_of c) e t.0 r
hands_nothing file (Types h) p e (Some (HeaderRecord g)) st' q r t = t
hands_nothing file (Types h) p e (Some (Block b)) st' q r t = t
hands_nothing file (Types h) p e None st' q r t = t
hands_nothing file (Blocks n) p e (Some (HeaderRecord g)) st' q r t = t
hands_nothing file (Blocks n) p e (Some (Columns c)) st' q r t = t
hands_nothing file (Blocks n) p e (Some (Block b)) st' q (inl r) t = never _ (block_of b) e t.1 r.1
hands_nothing file (Blocks n) p e (Some (Block b)) st' q (inr r) t = omega (arith, r.0, t.0)
hands_nothing file (Blocks n) p e None st' q (inl r) t = omega (arith, r.0, t.0)
hands_nothing file (Blocks n) p e None st' q (inr r) t = omega (arith, r.1, t.1)

pub tells_again : TellsTheSameAgain
tells_again file st p e r = (
  λ d k. let a = rest_fails file p [] [] st e r in let b = rest_fails file p [] [] st d k in cc,
  λ o st' q. hands_nothing file st p e o st' q r,
)

pub fit : (file : List ℕ) (st : Stage) (p : ℕ) (r : Record) (st' : Stage) (q : ℕ) → AllBelowBase 2 file → HandsOut file st p (Some r) st' q → Fit r
fit file Start p (HeaderRecord h) st' q u t = tt
fit file Start p (Columns c) st' q u t = absurd t
fit file Start p (Block b) st' q u t = absurd t
fit file (Types h) p (HeaderRecord g) st' q u t = tt
fit file (Types h) p (Columns c) st' q u t = t.3.0
fit file (Types h) p (Block b) st' q u t = absurd t
fit file (Blocks n) p (HeaderRecord g) st' q u t = tt
fit file (Blocks n) p (Columns c) st' q u t = absurd t
fit file (Blocks n) p (Block b) st' q u t = ((block_exact.sound file p (block_of b) u t.1).0, t.4.0, t.4.1)

-- the loop of a reader: it begins, goes on, ends or stops
module _ (bytes : List ℕ) where
  pub begins : (st : Stage) (p : ℕ) (cs : List ValueType) (bs : List BlockOf) → st ≡ Start → p ≡ 0 → cs ≡ [] → bs ≡ [] → read_file bytes ≡ rest (bits_of bytes) st p cs bs
  begins st p cs bs e f g h = from_start bytes ∙ (λ i. rest (bits_of bytes) (sym e i) (sym f i) (sym g i) (sym h i))

  module _ (file : List ℕ) (st : Stage) (p : ℕ) (cs : List ValueType) (bs : List BlockOf) (same : file ≡ bytes) (inv : read_file bytes ≡ rest (bits_of bytes) st p cs bs) where
    pub goes_on : (o : Option Record) (r : Record) (st' : Stage) (q : ℕ) (cs' : List ValueType) (bs' : List BlockOf) → o ≡ Some r → HandsOut (bits_of file) st p o st' q → cs' ≡ cs ++ columns_in r → bs' ≡ bs ++ blocks_in r → read_file bytes ≡ rest (bits_of bytes) st' q cs' bs'
    goes_on o r st' q cs' bs' is t e f =
        let u = subst (λ y. HandsOut (bits_of file) st p y st' q) is t in
        inv ∙ rest_more (bits_of bytes) p cs bs st r st' q (subst (λ x. HandsOut (bits_of x) st p (Some r) st' q) same u)
        ∙ (λ i. rest (bits_of bytes) st' q (sym e i) (sym f i))

    pub ends : (o : Option Record) (st' : Stage) (q : ℕ) → o ≡ None → HandsOut (bits_of file) st p o st' q → read_file bytes ≡ Ok (record { columns = cs; blocks = bs })
    ends o st' q is t =
        let u = subst (λ y. HandsOut (bits_of file) st p y st' q) is t in
        inv ∙ rest_end (bits_of bytes) p cs bs st st' q (subst (λ x. HandsOut (bits_of x) st p None st' q) same u)

    pub stops : (e : ReadFault) → Refuses (bits_of file) st p e → read_file bytes ≡ Err e
    stops e t = inv ∙ rest_fails (bits_of bytes) p cs bs st e (subst (λ x. Refuses (bits_of x) st p e) same t)
