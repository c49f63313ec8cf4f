-- What is left of rows has parts and registers that are there.
use Rattle.std.proofs.Common.{refl, arith}
use Rattle.std.proofs.lemmas.Bool.{eqb-true}
use Rattle.std.specs.Prelude.{ℕ, zero, suc, ◌+◌, ◌-◌, ◌<◌, ◌≤◌, ◌≡◌, Bool, true, false, ◌&&◌, List, [], ◌∷◌}
use Rattle.std.specs.Prelude.{◌++◌, Option, Some, None, length, nat_eq, bytes_eq, take, drop, map, All}
use Rattle.std.specs.Option.{option_map}
use Rattle.std.specs.List.{list_any}
use Rattle.rec_syntax.specs.Syntax.{Term, Terms, Apply, none, more, Spec}
use Rattle.rec_sorts.specs.Lookup.{symbols, is_variable, count}
use Rattle.rec_sorts.specs.Laws.{Every}
use Rattle.rec_sorts.specs.Numbering.{name_of, arity_of}
use Rattle.rec_sorts.specs.declared.letters.Meaning.{Meaning}
use Rattle.rec_sorts.specs.declared.letters.Meaning.TheVariants.{Symbol, Variable}
use Rattle.rec_match.specs.Bound.{goes_on}
use Rattle.rec_match.specs.Rows.{Cell, Row, cells_from, opened_cell, opened_cells, asks_for, kept_cells, changed}
use Rattle.rec_match.specs.Inner.Growing.{Within, AllWithin}
use Rattle.rec_match.specs.Parts.{part_at, arguments_at, numbered_from, opened_code, opened_codes, AreDistinct, asks_for_marked}
use Rattle.rec_match.specs.Parts.{kept_codes, Coded, changed_codes, AreMarks, IsCode, AreCells, coded_of, IsWhole}
use Rattle.rec_match.specs.Inner.Tasks.{AreThere, AreLeft}
use Rattle.rec_match.specs.declared.parts.Code.{Code}
use Rattle.rec_match.specs.declared.parts.CodeRow.{CodeRow}
use Rattle.rec_match.specs.declared.parts.Parts.{Parts}
use Rattle.rec_match.proofs.FactLemmas.{every_joined}
use Rattle.rec_match.proofs.PartLemmas.{opened_codes_are, kept_codes_are, changed_rows_are}

-- it holds of each element of a list that may be there
abbrev EverySome : {X : Type 0} → (X → Type 0) → Option (List X) → Type 0
EverySome P (Some xs) = Every P xs
EverySome P None = Unit {0}

pub every_take : {X : Type 0} (P : X → Type 0) (n : ℕ) (xs : List X) → Every P xs → Every P (take n xs)
every_take P zero xs h = tt
every_take P (suc n) [] h = tt
every_take P (suc n) (x ∷ xs) h = (h.0, every_take P n xs h.1)

pub every_drop : {X : Type 0} (P : X → Type 0) (n : ℕ) (xs : List X) → Every P xs → Every P (drop n xs)
every_drop P zero xs h = h
every_drop P (suc n) [] h = tt
every_drop P (suc n) (x ∷ xs) h = every_drop P n xs h.1

-- an answer before another one
every_both : {X : Type 0} (P : X → Type 0) (o p : Option (List X)) → EverySome P o → EverySome P p
    → EverySome P (goes_on o (λ xs. option_map (λ ys. xs ++ ys) p))
every_both P None p h k = tt
every_both P (Some xs) None h k = tt
every_both P (Some xs) (Some ys) h k = every_joined P xs ys h k

module _ (ps : Parts) (whole : IsWhole ps) where
  pub numbered_there : (n base : ℕ) (ks : List ℕ) → Every (λ (a : ℕ). a < n) ks → AreThere n (numbered_from base ks)
  numbered_there n base [] h = tt
  numbered_there n base (k ∷ ks) h = (h.0, numbered_there n (suc base) ks h.1)

  opened_code_there : (r symbol base : ℕ) (c : Code) → c.part < length ps.parts.items
      → EverySome (λ (c : Code). c.part < length ps.parts.items) (opened_code ps r symbol base c)
  opened_code_there r symbol base c lt = by (nat_eq c.register r) (part_at ps c.part).meaning
    where
      P : Code → Type 0
      P d = d.part < length ps.parts.items

      by_symbol : Bool → Option (List Code)
      by_symbol b = elim b [ true ↦ Some (numbered_from base (arguments_at ps c.part)) | false ↦ None ]

      at : (b : Bool) → EverySome P (by_symbol b)
      at true =
          let p = part_at ps c.part in
          numbered_there (length ps.parts.items) base (arguments_at ps c.part)
          (every_take (λ (a : ℕ). a < length ps.parts.items) (p.to - p.from) (drop p.from ps.arguments.items)
          (every_drop (λ (a : ℕ). a < length ps.parts.items) p.from ps.arguments.items whole.arguments))
      at false = tt

      by : (b : Bool) (m : Meaning) → EverySome P
          (elim b [
            | false ↦ Some (c ∷ [])
            | true ↦ elim m [
              | Variable v ↦ Some (c ∷ [])
              | Symbol k ↦ elim (nat_eq k symbol)
                  [ true ↦ Some (numbered_from base (arguments_at ps c.part)) | false ↦ None ]
            ]
          ])
      by false m = (lt, tt)
      by true (Variable v) = (lt, tt)
      by true (Symbol k) = at (nat_eq k symbol)

  opened_codes_there : (r symbol base : ℕ) (cs : List Code) → AreThere (length ps.parts.items) cs
      → EverySome (λ (c : Code). c.part < length ps.parts.items) (opened_codes ps r symbol base cs)
  opened_codes_there r symbol base [] h = tt
  opened_codes_there r symbol base (c ∷ cs) h =
      every_both (λ (c : Code). c.part < length ps.parts.items) (opened_code ps r symbol base c) (opened_codes ps r symbol base cs)
      (opened_code_there r symbol base c h.0) (opened_codes_there r symbol base cs h.1)

  kept_codes_there : (r : ℕ) (marks : List Bool) (cs : List Code) → AreThere (length ps.parts.items) cs
      → EverySome (λ (c : Code). c.part < length ps.parts.items) (kept_codes ps r marks cs)
  kept_codes_there r marks cs h = by (list_any (asks_for_marked ps r marks) cs)
    where
      by : (b : Bool) → EverySome (λ (c : Code). c.part < length ps.parts.items) (elim b [ true ↦ None | false ↦ Some cs ])
      by true = tt
      by false = h

changed_there : (n : ℕ) (h : List Code → Option (List Code)) → ((cs : List Code) → AreThere n cs → EverySome (λ (c : Code). c.part < n) (h cs))
    → (xs : List Coded) → Every (λ (r : Coded). AreThere n r.codes) xs → Every (λ (r : Coded). AreThere n r.codes) (changed_codes h xs)
changed_there n h each [] k = tt
changed_there n h each (x ∷ xs) k = by (h x.codes) (each x.codes k.0) (changed_there n h each xs k.1)
  where
    by : (o : Option (List Code)) → EverySome (λ (c : Code). c.part < n) o → Every (λ (r : Coded). AreThere n r.codes) (changed_codes h xs)
        → Every (λ (r : Coded). AreThere n r.codes)
        (elim o [ Some cs ↦ (record { number = x.number; codes = cs }) ∷ changed_codes h xs | None ↦ changed_codes h xs ])
    by None e later = later
    by (Some cs) e later = (e, later)

changed_within : (n m : ℕ) (h : List Cell → Option (List Cell)) → ((cs : List Cell) → Within n cs → EverySome (λ (c : Cell). c.register < m) (h cs))
    → (rows : List Row) → AllWithin n rows → AllWithin m (changed h rows)
changed_within n m h each [] k = tt
changed_within n m h each (x ∷ xs) k = by (h x.cells) (each x.cells k.0) (changed_within n m h each xs k.1)
  where
    by : (o : Option (List Cell)) → EverySome (λ (c : Cell). c.register < m) o → AllWithin m (changed h xs)
        → AllWithin m (elim o [ Some cs ↦ (record { number = x.number; cells = cs }) ∷ changed h xs | None ↦ changed h xs ])
    by None e later = later
    by (Some cs) e later = (e, later)

pub cells_from_within : (base n : ℕ) (ts : Terms) → base + count ts ≤ n → Within n (cells_from base ts)
cells_from_within base n none le = tt
cells_from_within base n (more t ts) le = ((let lt : base < n = omega (arith, le) in lt), cells_from_within (suc base) n ts (omega (arith, le)))

module _ (y : Spec) (r : ℕ) (name : List ℕ) (k n : ℕ) where
  opened_cell_within : (c : Cell) → c.register < n → EverySome (λ (c : Cell). c.register < n + k) (opened_cell y r name k n c)
  opened_cell_within c lt = by (nat_eq c.register r) c.pattern
    where
      P : Cell → Type 0
      P d = d.register < n + k

      more_there : c.register < n + k
      more_there = omega (arith, lt)

      at : (ts : Terms) (b d : Bool) → nat_eq (count ts) k ≡ d → EverySome P (elim (b && d) [ true ↦ Some (cells_from n ts) | false ↦ None ])
      at ts false d e = tt
      at ts true false e = tt
      at ts true true e = let is : count ts ≡ k = eqb-true (count ts) k e in cells_from_within n (n + k) ts (omega (arith, is))

      of_name : (v : Bool) (w : List ℕ) (ts : Terms) → EverySome P
          (elim v [ true ↦ Some (c ∷ []) | false ↦ elim (bytes_eq w name && nat_eq (count ts) k) [ true ↦ Some (cells_from n ts) | false ↦ None ] ])
      of_name true w ts = (more_there, tt)
      of_name false w ts = at ts (bytes_eq w name) (nat_eq (count ts) k) refl

      by : (b : Bool) (t : Term) → EverySome P (elim b [
        | false ↦ Some (c ∷ [])
        | true ↦ elim t [
          | Apply w ts ↦ elim (is_variable y w.bytes) [
            | true ↦ Some (c ∷ [])
            | false ↦ elim
                (bytes_eq w.bytes name && nat_eq (count ts) k) [ true ↦ Some (cells_from n ts) | false ↦ None ]
          ]
        ]
      ])
      by false t = (more_there, tt)
      by true (Apply w ts) = of_name (is_variable y w.bytes) w.bytes ts

  opened_cells_within : (cs : List Cell) → Within n cs → EverySome (λ (c : Cell). c.register < n + k) (opened_cells y r name k n cs)
  opened_cells_within [] h = tt
  opened_cells_within (c ∷ cs) h = every_both (λ (c : Cell). c.register < n + k) (opened_cell y r name k n c) (opened_cells y r name k n cs)
      (opened_cell_within c h.0) (opened_cells_within cs h.1)

kept_cells_within : (y : Spec) (r n : ℕ) (of : List ℕ → ℕ → Bool) (cs : List Cell) → Within n cs
    → EverySome (λ (c : Cell). c.register < n) (kept_cells y r of cs)
kept_cells_within y r n of [] h = tt
kept_cells_within y r n of (c ∷ cs) h = by (asks_for y r of c) (kept_cells y r of cs) (kept_cells_within y r n of cs h.1)
  where
    by : (b : Bool) (o : Option (List Cell)) → EverySome (λ (c : Cell). c.register < n) o
        → EverySome (λ (c : Cell). c.register < n) (elim b [ true ↦ None | false ↦ option_map (λ es. c ∷ es) o ])
    by true o e = tt
    by false None e = tt
    by false (Some es) e = (h.0, e)

-- what is left where a register is an application of a symbol
pub left_opened : (y : Spec) (ps : Parts) (r symbol width : ℕ) (coded : List Coded) (rows : List Row) → IsWhole ps → AreDistinct y
    → symbol < length (symbols y) → AreLeft y ps width coded rows
    → AreLeft y ps (width + arity_of y symbol) (changed_codes (opened_codes ps r symbol width) coded)
    (changed (opened_cells y r (name_of y (Symbol symbol)) (arity_of y symbol) width) rows)
left_opened y ps r symbol width coded rows whole distinct lt h = record {
  are = changed_rows_are y ps (opened_codes ps r symbol width) (opened_cells y r (name_of y (Symbol symbol)) (arity_of y symbol) width)
      (opened_codes_are y ps r symbol width distinct lt) coded rows h.are;
  there = changed_there (length ps.parts.items) (opened_codes ps r symbol width) (opened_codes_there ps whole r symbol width) coded h.there;
  registers = changed_within width (width + arity_of y symbol) (opened_cells y r (name_of y (Symbol symbol)) (arity_of y symbol) width)
      (opened_cells_within y r (name_of y (Symbol symbol)) (arity_of y symbol) width) rows h.registers;
}

-- what is left where a register is no application of a symbol that is marked
pub left_kept : (y : Spec) (ps : Parts) (r width : ℕ) (marks : List Bool) (of : List ℕ → ℕ → Bool) (coded : List Coded) (rows : List Row) → IsWhole ps
    → AreMarks y marks of → AreLeft y ps width coded rows
    → AreLeft y ps width (changed_codes (kept_codes ps r marks) coded) (changed (kept_cells y r of) rows)
left_kept y ps r width marks of coded rows whole marked h = record {
  are = changed_rows_are y ps (kept_codes ps r marks) (kept_cells y r of) (kept_codes_are y ps r marks of marked) coded rows h.are;
  there = changed_there (length ps.parts.items) (kept_codes ps r marks) (kept_codes_there ps whole r marks) coded h.there;
  registers = changed_within width width (kept_cells y r of) (kept_cells_within y r width of) rows h.registers;
}

-- codes whose parts are there
pub is_code : (ps : Parts) → IsWhole ps → (c : Code) → c.part < length ps.parts.items → IsCode ps c
is_code ps whole c lt = record { there = lt; ordered = whole.ordered c.part lt; within = whole.within c.part lt }

pub codes_there : (ps : Parts) → IsWhole ps → (cs : List Code) → AreThere (length ps.parts.items) cs → All (IsCode ps) cs
codes_there ps whole [] h k d lt = absurd (let bad : ⊥ = omega (arith, lt) in bad)
codes_there ps whole (c ∷ cs) h zero d lt = is_code ps whole c h.0
codes_there ps whole (c ∷ cs) h (suc k) d lt = codes_there ps whole cs h.1 k d (omega (arith, lt))

pub rows_there : (ps : Parts) → IsWhole ps → (rows : List CodeRow)
    → Every (λ (r : Coded). AreThere (length ps.parts.items) r.codes) (map coded_of rows) → All (λ (row : CodeRow). All (IsCode ps) row.codes.items) rows
rows_there ps whole [] h k d lt = absurd (let bad : ⊥ = omega (arith, lt) in bad)
rows_there ps whole (x ∷ xs) h zero d lt = codes_there ps whole x.codes.items h.0
rows_there ps whole (x ∷ xs) h (suc k) d lt = rows_there ps whole xs h.1 k d (omega (arith, lt))

-- the registers of codes are those of cells
registers_there : (y : Spec) (ps : Parts) (n : ℕ) (cs : List Code) (ds : List Cell) → AreCells y ps cs ds → Within n ds → All (λ (c : Code). c.register < n) cs
registers_there y ps n [] ds a h k d lt = absurd (let bad : ⊥ = omega (arith, lt) in bad)
registers_there y ps n (c ∷ cs) [] a h k d lt = absurd a
registers_there y ps n (c ∷ cs) (e ∷ ds) a h zero d lt = let is = a.0.0 in let below = h.0 in omega (arith, is, below)
registers_there y ps n (c ∷ cs) (e ∷ ds) a h (suc k) d lt = registers_there y ps n cs ds a.1 h.1 k d (omega (arith, lt))

pub rows_within : (y : Spec) (ps : Parts) (n : ℕ) (rows : List CodeRow) (bs : List Row) → AreLeft y ps n (map coded_of rows) bs
    → All (λ (row : CodeRow). All (λ (c : Code). c.register < n) row.codes.items) rows
rows_within y ps n [] bs h k d lt = absurd (let bad : ⊥ = omega (arith, lt) in bad)
rows_within y ps n (x ∷ xs) [] h k d lt = absurd h.are
rows_within y ps n (x ∷ xs) (b ∷ bs) h zero d lt = registers_there y ps n x.codes.items b.cells h.are.0.1 h.registers.0
rows_within y ps n (x ∷ xs) (b ∷ bs) h (suc k) d lt = rows_within y ps n xs bs
    (record { are = h.are.1; there = h.there.1; registers = h.registers.1 }) k d (omega (arith, lt))
