-- The rows of a symbol's rules, rule by rule.
use Rattle.std.proofs.Common.{refl, sym, ap, subst, arith, ◌∙◌}
use Rattle.std.proofs.lemmas.List.{append-nil, length-take-le, take_all}
use Rattle.std.proofs.Math.Seq.{take-suc}
use Rattle.std.specs.Prelude.{ℕ, zero, suc, ◌+◌, ◌-◌, ◌<◌, ◌≤◌, ◌≡◌, ◌≢◌, Bool, true, false, ◌&&◌, List}
use Rattle.std.specs.Prelude.{[], ◌∷◌, ◌++◌, None, length, get_or, take, drop, nat_eq, bytes_eq}
use Rattle.rec_syntax.specs.Syntax as R
use Rattle.rec_syntax.specs.Syntax.{Term, Apply, Rule, Spec}
use Rattle.rec_sorts.specs.Lookup.{symbols, is_variable, count}
use Rattle.rec_sorts.specs.SpecRules.{fault}
use Rattle.rec_sorts.specs.Numbering.{name_of, arity_of}
use Rattle.rec_sorts.specs.declared.letters.Meaning.{Meaning}
use Rattle.rec_sorts.specs.declared.letters.Meaning.TheVariants.{Symbol, Variable}
use Rattle.rec_sorts.proofs.KeptLemmas.{bytes_eq-eq}
use Rattle.rec_sorts.proofs.BindingLemmas.{bytes_eq-refl}
use Rattle.std.proofs.lemmas.Bool.{eq-eqb}
use Rattle.rec_match.specs.Inner.Built.{IsHead, AreHeads}
use Rattle.rec_match.specs.Inner.Chains.{IsNext, AreChainsFrom}
use Rattle.rec_match.specs.Inner.Growing.{Within}
use Rattle.rec_match.specs.Parts as P
use Rattle.rec_match.specs.Parts.{part_at, arguments_at, numbered_from, Coded, IsPart, AreRows, IsWhole}
use Rattle.rec_match.specs.Pushed.{AreLeftParts}
use Rattle.rec_match.specs.Rows.{Row, cells_from}
use Rattle.rec_match.specs.Inner.Running.{is_of, root_rows}
use Rattle.rec_match.specs.Inner.Tasks.{AreThere, AreLeft}
use Rattle.rec_match.specs.declared.parts.Parts.{Parts}
use Rattle.rec_match.proofs.FactLemmas.{facts, every_joined}
use Rattle.rec_match.proofs.LeftLemmas.{every_take, every_drop, numbered_there, cells_from_within}
use Rattle.rec_match.proofs.PartLemmas.{numbered_cells}

pub no_rule : Rule
no_rule = record { left = Apply (record { at = 0; bytes = [] }) R.none; right = Apply (record { at = 0; bytes = [] }) R.none; conditions = [] }

-- one rule more
root_rows_more : (name : List ℕ) (k m : ℕ) (rs : List Rule) (r : Rule)
    → root_rows name k m (rs ++ r ∷ []) ≡ root_rows name k m rs ++ root_rows name k (m + length rs) (r ∷ [])
root_rows_more name k m [] r = ap (λ j. root_rows name k j (r ∷ [])) (let e : m ≡ m + 0 = omega arith in e)
root_rows_more name k m (x ∷ rs) r = by (is_of name k x.left)
    (root_rows_more name k (suc m) rs r ∙ ap (λ j. root_rows name k (suc m) rs ++ root_rows name k j (r ∷ []))
    (let e : suc m + length rs ≡ m + length (x ∷ rs) = omega arith in e))
  where
    own : Row
    own = record { number = m; cells = cells_from 0 (R.arguments x.left) }

    by : (b : Bool) → root_rows name k (suc m) (rs ++ r ∷ []) ≡ root_rows name k (suc m) rs ++ root_rows name k (m + length (x ∷ rs)) (r ∷ [])
        → ◌≡◌ {A = List Row}
        (elim b [ true ↦ own ∷ root_rows name k (suc m) (rs ++ r ∷ []) | false ↦ root_rows name k (suc m) (rs ++ r ∷ []) ])
        (elim b [ true ↦ own ∷ root_rows name k (suc m) rs | false ↦ root_rows name k (suc m) rs ] ++ root_rows name k (m + length (x ∷ rs)) (r ∷ []))
    by true later = ap (λ xs. own ∷ xs) later
    by false later = later

-- one rule more of those of a specification
rows_at : (name : List ℕ) (k : ℕ) (rs : List Rule) (i : ℕ) → i < length rs
    → root_rows name k 0 (take (suc i) rs) ≡ root_rows name k 0 (take i rs) ++ root_rows name k i (get_or rs i no_rule ∷ [])
rows_at name k rs i lt =
    ap (root_rows name k 0) (take-suc rs i no_rule lt)
    ∙ root_rows_more name k 0 (take i rs) (get_or rs i no_rule)
    ∙ ap (λ j. root_rows name k 0 (take i rs) ++ root_rows name k j (get_or rs i no_rule ∷ [])) (let l = length-take-le i rs (omega (arith, lt)) in
    let e : 0 + length (take i rs) ≡ i = omega (arith, l) in e)

rows_joined : (y : Spec) (ps : Parts) (xs ys : List Coded) (bs ds : List Row) → AreRows y ps xs bs → AreRows y ps ys ds → AreRows y ps (xs ++ ys) (bs ++ ds)
rows_joined y ps [] ys [] ds h k = k
rows_joined y ps [] ys (b ∷ bs) ds h k = absurd h
rows_joined y ps (x ∷ xs) ys [] ds h k = absurd h
rows_joined y ps (x ∷ xs) ys (b ∷ bs) ds h k = (h.0, rows_joined y ps xs ys bs ds h.1 k)

-- what is left of rows after one another
left_joined : (y : Spec) (ps : Parts) (width : ℕ) (xs ys : List Coded) (bs ds : List Row) → AreLeft y ps width xs bs → AreLeft y ps width ys ds
    → AreLeft y ps width (xs ++ ys) (bs ++ ds)
left_joined y ps width xs ys bs ds h k = record {
  are = rows_joined y ps xs ys bs ds h.are k.are;
  there = every_joined (λ (r : Coded). AreThere (length ps.parts.items) r.codes) xs ys h.there k.there;
  registers = every_joined (λ (row : Row). Within width row.cells) bs ds h.registers k.registers;
}

-- the row of a rule of which nothing was asked
abbrev pub whole_row : Parts → ℕ → ℕ → Coded
whole_row ps i n = record { number = i; codes = numbered_from 0 (arguments_at ps n) }

-- the rows of the rules before one that is a symbol's, if it is there
pub record RowsBefore (y : Spec) (k : ℕ) (ps : Parts) (coded : List Coded) (i : ℕ) : Type 0 where
  pub within : i ≤ length y.rules
  pub head : (r : Rule) → i < length y.rules → IsHead y (get_or y.rules i r) k
  pub left : AreLeft y ps (arity_of y k) coded (root_rows (name_of y (Symbol k)) (arity_of y k) 0 (take i y.rules))

module _ (y : Spec) (kept : fault y ≡ None) (k : ℕ) (declared : k < length (symbols y)) where
  -- a left-hand side of another symbol
  other_left : (l : Term) (j : ℕ) → j < length (symbols y) → (R.head l).bytes ≡ name_of y (Symbol j) → j ≢ k
      → is_of (name_of y (Symbol k)) (arity_of y k) l ≡ false
  other_left l j lt e apart = by (bytes_eq (R.head l).bytes (name_of y (Symbol k))) refl
    where
      by : (b : Bool) → bytes_eq (R.head l).bytes (name_of y (Symbol k)) ≡ b → ◌≡◌ {A = Bool} (b && nat_eq (count (R.arguments l)) (arity_of y k)) false
      by false q = refl
      by true q = absurd (apart ((facts y kept).symbols_differ j k lt declared (sym e ∙ bytes_eq-eq (R.head l).bytes (name_of y (Symbol k)) q)))

  -- a left-hand side of the symbol has as many arguments as the symbol
  left_counted : (ps : Parts) (n : ℕ) (l : Term) → IsPart y ps n l → (R.head l).bytes ≡ name_of y (Symbol k) → count (R.arguments l) ≡ arity_of y k
  left_counted ps n (Apply w ts) part e = by (part_at ps n).meaning part.0
    where
      by : (m : Meaning) → P.IsHead y m w.bytes (count ts) → count ts ≡ arity_of y k
      by (Symbol j) h = h.2 ∙ ap (arity_of y) ((facts y kept).symbols_differ j k h.0 declared (sym h.1 ∙ e))
      by (Variable v) h = let no : is_variable y w.bytes ≡ false = ap (is_variable y) e ∙ (facts y kept).symbol_is_none k declared in absurd (cc (no, h.2))

  own_left : (l : Term) → (R.head l).bytes ≡ name_of y (Symbol k) → count (R.arguments l) ≡ arity_of y k → is_of (name_of y (Symbol k)) (arity_of y k) l ≡ true
  own_left l e c =
      let named : bytes_eq (R.head l).bytes (name_of y (Symbol k)) ≡ true =
      ap (λ x. bytes_eq x (name_of y (Symbol k))) e ∙ bytes_eq-refl (name_of y (Symbol k)) in
      ap (λ b. b && nat_eq (count (R.arguments l)) (arity_of y k)) named ∙ eq-eqb (count (R.arguments l)) (arity_of y k) c

  -- rules of other symbols have no rows
  rows_passed : (hs : List ℕ) → AreHeads y hs → (from at n : ℕ) → at ≡ from + n → at ≤ length y.rules → ((j : ℕ) → from ≤ j → j < at → get_or hs j 0 ≢ k)
      → root_rows (name_of y (Symbol k)) (arity_of y k) 0 (take at y.rules) ≡ root_rows (name_of y (Symbol k)) (arity_of y k) 0 (take from y.rules)
  rows_passed hs heads from at zero e le others = ap (λ j. root_rows (name_of y (Symbol k)) (arity_of y k) 0 (take j y.rules)) (let q : at ≡ from =
      omega (arith, e) in q)
  rows_passed hs heads from at (suc n) e le others =
      let within : from < length y.rules = omega (arith, e, le) in
      let h = heads.each from no_rule within in
      let r = get_or y.rules from no_rule in
      let none : root_rows (name_of y (Symbol k)) (arity_of y k) from (r ∷ []) ≡ [] =
      ap (row_if from r) (other_left r.left (get_or hs from 0) h.declared h.head (others from (omega arith) (omega (arith, e)))) in
      rows_passed hs heads (suc from) at n (omega (arith, e)) le (λ j l q. others j (omega (arith, l)) q)
      ∙ rows_at (name_of y (Symbol k)) (arity_of y k) y.rules from within
      ∙ ap (λ xs. root_rows (name_of y (Symbol k)) (arity_of y k) 0 (take from y.rules) ++ xs) none
      ∙ append-nil (root_rows (name_of y (Symbol k)) (arity_of y k) 0 (take from y.rules))
    where
      row_if : ℕ → Rule → Bool → List Row
      row_if m r b = elim b [ true ↦ (record { number = m; cells = cells_from 0 (R.arguments r.left) }) ∷ [] | false ↦ [] ]

  -- on to the next rule of the symbol
  rows_on : (ps : Parts) (coded : List Coded) (hs : List ℕ) → AreHeads y hs → (from at : ℕ) → IsNext hs k from at
      → AreLeft y ps (arity_of y k) coded (root_rows (name_of y (Symbol k)) (arity_of y k) 0 (take from y.rules)) → RowsBefore y k ps coded at
  rows_on ps coded hs heads from at next left =
      let a = next.after in
      let w = next.within in
      let c = heads.counted in
      let le : at ≤ length y.rules = omega (arith, w, c) in
      record {
        within = le;
        head = λ r lt. subst (IsHead y (get_or y.rules at r)) (next.is (omega (arith, lt, c))) (heads.each at r lt);
        left = subst (AreLeft y ps (arity_of y k) coded) (sym (rows_passed hs heads from at (at - from) (omega (arith, a)) le next.none)) left;
      }

  pub rows_first : (ps : Parts) (coded : List Coded) (hs : List ℕ) → AreHeads y hs → (at : ℕ) → coded ≡ [] → IsNext hs k 0 at → RowsBefore y k ps coded at
  rows_first ps coded hs heads at e next = rows_on ps coded hs heads 0 at next
      (subst (λ xs. AreLeft y ps (arity_of y k) xs []) (sym e) (record { are = tt; there = tt; registers = tt }))

  -- the rule after one of the symbol
  pub chain_on : (ps : Parts) (coded : List Coded) (hs heads nexts : List ℕ) (n i : ℕ) → AreHeads y hs → AreChainsFrom hs n 0 heads nexts
      → RowsBefore y k ps coded i → i < length y.rules → IsNext hs k (suc i) (get_or nexts i 0)
  chain_on ps coded hs heads nexts n i are chains before lt =
      let h = are.each i no_rule lt in
      let is : get_or hs i 0 ≡ k = (facts y kept).symbols_differ (get_or hs i 0) k h.declared declared (sym h.head ∙ (before.head no_rule lt).head) in
      let c = are.counted in
      subst (λ j. IsNext hs j (suc i) (get_or nexts i 0)) is (chains.nexts_next i (omega arith) (omega (arith, lt, c)))

  -- the row of a rule of the symbol
  own_row : (ps : Parts) (i n : ℕ) (r : Rule) → IsWhole ps → n < length ps.parts.items → IsPart y ps n r.left → (R.head r.left).bytes ≡ name_of y (Symbol k)
      → AreLeft y ps (arity_of y k) (whole_row ps i n ∷ []) (root_rows (name_of y (Symbol k)) (arity_of y k) i (r ∷ []))
  own_row ps i n r whole lt part e = subst (λ b. AreLeft y ps (arity_of y k) (whole_row ps i n ∷ []) (elim b [ true ↦ own ∷ [] | false ↦ [] ]))
      (sym (own_left r.left e counted)) (record {
        are = ((refl, cells r.left part), tt);
        there = (
          numbered_there ps whole (length ps.parts.items) 0 (arguments_at ps n)
              (every_take (λ (a : ℕ). a < length ps.parts.items) ((part_at ps n).to - (part_at ps n).from) (drop (part_at ps n).from ps.arguments.items)
              (every_drop (λ (a : ℕ). a < length ps.parts.items) (part_at ps n).from ps.arguments.items whole.arguments)),
          tt,
        );
        registers = (cells_from_within 0 (arity_of y k) (R.arguments r.left) (omega (arith, counted)), tt);
      })
    where
      counted : count (R.arguments r.left) ≡ arity_of y k
      counted = left_counted ps n r.left part e

      own : Row
      own = record { number = i; cells = cells_from 0 (R.arguments r.left) }

      cells : (l : Term) → IsPart y ps n l → P.AreCells y ps (numbered_from 0 (arguments_at ps n)) (cells_from 0 (R.arguments l))
      cells (Apply w ts) p = numbered_cells y ps 0 (arguments_at ps n) ts p.1

  -- one row more
  pub rows_next : (ps : Parts) (numbers : List ℕ) (coded coded' : List Coded) (hs : List ℕ) (i at : ℕ) → AreLeftParts y ps numbers (length y.rules)
      → AreHeads y hs → RowsBefore y k ps coded i → i < length y.rules
      → coded' ≡ coded ++ whole_row ps i (get_or numbers i 0) ∷ [] → IsNext hs k (suc i) at → RowsBefore y k ps coded' at
  rows_next ps numbers coded coded' hs i at parts heads before lt e next =
      let part = parts.each i no_rule lt in
      rows_on ps coded' hs heads (suc i) at next
      (subst (λ xs. AreLeft y ps (arity_of y k) xs (root_rows (name_of y (Symbol k)) (arity_of y k) 0 (take (suc i) y.rules))) (sym e)
      (subst (AreLeft y ps (arity_of y k) (coded ++ whole_row ps i (get_or numbers i 0) ∷ []))
      (sym (rows_at (name_of y (Symbol k)) (arity_of y k) y.rules i lt))
      (left_joined y ps (arity_of y k) coded (whole_row ps i (get_or numbers i 0) ∷ [])
      (root_rows (name_of y (Symbol k)) (arity_of y k) 0 (take i y.rules))
      (root_rows (name_of y (Symbol k)) (arity_of y k) i (get_or y.rules i no_rule ∷ [])) before.left
      (own_row ps i (get_or numbers i 0) (get_or y.rules i no_rule) parts.whole part.0 part.1 (before.head no_rule lt).head))))

  -- the rows of all rules
  pub rows_all : (ps : Parts) (coded : List Coded) (i : ℕ) → RowsBefore y k ps coded i → length y.rules ≤ i
      → AreLeft y ps (arity_of y k) coded (root_rows (name_of y (Symbol k)) (arity_of y k) 0 y.rules)
  rows_all ps coded i before le = subst (λ rs. AreLeft y ps (arity_of y k) coded (root_rows (name_of y (Symbol k)) (arity_of y k) 0 rs))
      (take_all i y.rules le) before.left
