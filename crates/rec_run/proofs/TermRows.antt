-- The rules of a text of terms, row by row.
use Rattle.std.proofs.Common.{refl}
use Rattle.std.specs.Prelude.{ℕ, List, [], ◌∷◌, ◌++◌, decimal, codes, ◌≡◌, true, false, Some, None, ℤ}
use Rattle.rec_syntax.specs.Tokens.{Word}
use Rattle.rec_syntax.specs.Syntax.{Terms, Apply, Spec}
use Rattle.rx_term.specs.Tree.{Tree, Int, Appl, Items, Hole, none, more}
use Rattle.rec_sorts.specs.TermRules.{broken_by_terms}
use Rattle.std.specs.Fmt.{digits}
use Rattle.rec_sorts.specs.Evaluation.{Eval}
use Rattle.rx_run.specs.declared.term.reading.InputForm.TheVariants as form
use Rattle.rec_run.specs.Output.{bare, each_line, shown_by, value_line}
use Rattle.rec_run.specs.declared.options.LimitLines.TheVariants.{Annotated, Bare}
use Rattle.rec_run.specs.declared.options.TermChoice.TheVariants.{All}
use Rattle.rec_run.specs.declared.options.ValueForm.TheVariants.{Plain, Within, Table}

-- a word at a place
abbrev w : ℕ → List ℕ → Word
w at bytes = record { at = at; bytes = bytes }

-- the line of a term that passes the limit
abbrev limit : ℕ → List ℕ
limit n = codes "!limit " ++ decimal n ++ codes "\n"

abbrev pub q : Spec
q = record {
  name = (w 9 (codes "Q"));
  sorts = ((w 17 (codes "A")) ∷ (w 19 (codes "B")) ∷ []);
  constructors = ((record { name = (w 26 (codes "a")); arguments = ([]); sort = (w 33 (codes "A")) })
      ∷ (record { name = (w 35 (codes "b")); arguments = ([]); sort = (w 42 (codes "B")) }) ∷ []);
  operators = ((record { name = (w 49 (codes "f")); arguments = ((w 53 (codes "A")) ∷ []); sort = (w 58 (codes "A")) }) ∷ []);
  variables = ((record { first = (w 65 (codes "X")); others = ((w 67 (codes "Y")) ∷ []); sort = (w 71 (codes "A")) }) ∷ []);
  rules = ((record {
    left = (Apply (w 79 (codes "f")) (Terms.more (Apply (w 81 (codes "X")) Terms.none) Terms.none));
    right =
        (Apply (w 87 (codes "X")) Terms.none);
    conditions = ([]);
  }) ∷ []);
  terms = ((Apply (w 94 (codes "f")) (Terms.more (Apply (w 96 (codes "a")) Terms.none) Terms.none)) ∷ []);
}

-- a
row_0 : broken_by_terms q (Appl (codes "a") false none none) ≡ Some 1
row_0 = refl

-- [a]{a}
row_1 : broken_by_terms q (Items (more (Appl (codes "a") false none none) none) (more (Appl (codes "a") false none none) none)) ≡ Some 1
row_1 = refl

-- [f(a),3]
row_2 : broken_by_terms q (Items (more (Appl (codes "f") false (more (Appl (codes "a") false none none) none) none) (more (Int (ℤ.pos 3) none) none))
    none) ≡ Some 2
row_2 = refl

-- [a{a},<a>]
row_3 : broken_by_terms q (Items (more (Appl (codes "a") false none (more (Appl (codes "a") false none none) none))
    (more (Hole (Appl (codes "a") false none none) none) none)) none) ≡ Some 2
row_3 = refl

-- [f(a{b})]
row_4 : broken_by_terms q (Items
    (more (Appl (codes "f") false (more (Appl (codes "a") false none (more (Appl (codes "b") false none none) none)) none) none) none) none) ≡ Some 3
row_4 = refl

-- ["a"]
row_5 : broken_by_terms q (Items (more (Appl (codes "a") true none none) none) none) ≡ Some 4
row_5 = refl

-- [X]
row_6 : broken_by_terms q (Items (more (Appl (codes "X") false none none) none) none) ≡ Some 4
row_6 = refl

-- [f(a,a)]
row_7 : broken_by_terms q (Items
    (more (Appl (codes "f") false (more (Appl (codes "a") false none none) (more (Appl (codes "a") false none none) none)) none) none) none) ≡ Some 5
row_7 = refl

-- [f]
row_8 : broken_by_terms q (Items (more (Appl (codes "f") false none none) none) none) ≡ Some 5
row_8 = refl

-- [f(b)]
row_9 : broken_by_terms q (Items (more (Appl (codes "f") false (more (Appl (codes "b") false none none) none) none) none) none) ≡ Some 6
row_9 = refl

-- [f(a){a}]
row_10 : broken_by_terms q (Items
    (more (Appl (codes "f") false (more (Appl (codes "a") false none none) none) (more (Appl (codes "a") false none none) none)) none) none) ≡ None
row_10 = refl

-- [a{3}]
row_11 : broken_by_terms q (Items (more (Appl (codes "a") false none (more (Int (ℤ.pos 3) none) none)) none) none) ≡ None
row_11 = refl

-- [b,f(f(a))]
row_12 : broken_by_terms q (Items (more (Appl (codes "b") false none none)
    (more (Appl (codes "f") false (more (Appl (codes "f") false (more (Appl (codes "a") false none none) none) none) none) none) none)) none) ≡ None
row_12 = refl

-- [f(a){b,[3]},a{f(a)}]
row_13 : broken_by_terms q (Items
    (more (Appl (codes "f") false (more (Appl (codes "a") false none none) none)
    (more (Appl (codes "b") false none none) (more (Items (more (Int (ℤ.pos 3) none) none) none) none)))
    (more (Appl (codes "a") false none (more (Appl (codes "f") false (more (Appl (codes "a") false none none) none) none) none)) none)) none) ≡ None
row_13 = refl

-- []
row_14 : broken_by_terms q (Items none none) ≡ None
row_14 = refl

given : each_line q ((Appl (codes "b") false none none) ∷ (Appl (codes "f") false
    (more (Appl (codes "f") false (more (Appl (codes "a") false none none) none) none) none) none) ∷ []) (bare false) 1 ≡ codes "a\n" ∷ codes
    "b\n" ∷ limit 1 ∷ []
unfolding Eval
given = refl

-- annotations at the root, and the count
annotated_terms : each_line q ((Appl (codes "f") false (more (Appl (codes "a") false none none) none)
    (more (Appl (codes "b") false none none) (more (Items (more (Int (ℤ.pos 3) none) none) none) none)))
    ∷ (Appl (codes "a") false none (more (Appl (codes "f") false (more (Appl (codes "a") false none none) none) none) none)) ∷ []) (bare true)
    1 ≡ codes "a\t1\n" ∷ codes "a{b,[3]}\t1\n" ∷ codes "a{f(a)}\t0\n" ∷ []
unfolding Eval digits
annotated_terms = refl

annotated_limit : each_line q ((Appl (codes "f") false (more (Appl (codes "f") false (more (Appl (codes "a") false none none) none) none) none)
    (more (Appl (codes "b") false none none) none)) ∷ []) (bare true) 1 ≡ codes "a\t1\n" ∷ codes "!limit 1\n" ∷ []
unfolding Eval digits
annotated_limit = refl

-- the same where limit lines bear annotations
annotated_limits : each_line q
    ((Appl (codes "f") false (more (Appl (codes "f") false (more (Appl (codes "a") false none none) none) none) none)
    (more (Appl (codes "b") false none none) none)) ∷ (Appl (codes "f") false
    (more (Appl (codes "f") false (more (Appl (codes "a") false none none) none) none) none) none) ∷ []) (shown_by true Annotated Plain) 1 ≡ codes
    "a\t1\n" ∷ codes "!limit 1{b}\n" ∷ codes "!limit 1\n" ∷ []
unfolding Eval digits
annotated_limits = refl

-- a value within a bound, and one byte past it
abbrev bounded : ℕ → List (List ℕ)
bounded most = each_line q ((Appl (codes "f") false (more (Appl (codes "a") false none none) none) (more (Appl (codes "b") false none none) none)) ∷ [])
    (shown_by true Annotated (Within most)) 1

within_bound : bounded 4 ≡ codes "a\t1\n" ∷ codes "a{b}\t1\n" ∷ []
unfolding Eval digits
within_bound = refl

past_bound : bounded 3 ≡ codes "a\t1\n" ∷ codes "!bytes 3{b}\n" ∷ []
unfolding Eval digits
past_bound = refl

-- [f(f(3))]
row_15 : broken_by_terms q (Items (more (Appl (codes "f") false (more (Appl (codes "f") false (more (Int (ℤ.pos 3) none) none) none) none) none) none)
    none) ≡ Some 2
row_15 = refl

-- [f(a{b}),3]
row_16 : broken_by_terms q (Items
    (more (Appl (codes "f") false (more (Appl (codes "a") false none (more (Appl (codes "b") false none none) none)) none) none)
    (more (Int (ℤ.pos 3) none) none)) none) ≡ Some 2
row_16 = refl

-- [c(3)]
row_17 : broken_by_terms q (Items (more (Appl (codes "c") false (more (Int (ℤ.pos 3) none) none) none) none) none) ≡ Some 2
row_17 = refl

-- [f(f(a{b}))]
row_18 : broken_by_terms q (Items
    (more (Appl (codes "f") false (more
    (Appl (codes "f") false (more (Appl (codes "a") false none (more (Appl (codes "b") false none none) none)) none) none) none) none) none) none) ≡ Some 3
row_18 = refl

-- [a{b},f(a{b})]
row_19 : broken_by_terms q (Items (more (Appl (codes "a") false none (more (Appl (codes "b") false none none) none))
    (more (Appl (codes "f") false (more (Appl (codes "a") false none (more (Appl (codes "b") false none none) none)) none) none) none)) none) ≡ Some 3
row_19 = refl

-- [c(a{b})]
row_20 : broken_by_terms q (Items
    (more (Appl (codes "c") false (more (Appl (codes "a") false none (more (Appl (codes "b") false none none) none)) none) none) none) none) ≡ Some 3
row_20 = refl

-- [f(f(c))]
row_21 : broken_by_terms q (Items
    (more (Appl (codes "f") false (more (Appl (codes "f") false (more (Appl (codes "c") false none none) none) none) none) none) none) none) ≡ Some 4
row_21 = refl

-- [f(c,c)]
row_22 : broken_by_terms q (Items
    (more (Appl (codes "f") false (more (Appl (codes "c") false none none) (more (Appl (codes "c") false none none) none)) none) none) none) ≡ Some 4
row_22 = refl

-- [f(f(a,a))]
row_23 : broken_by_terms q (Items
    (more (Appl (codes "f") false (more
    (Appl (codes "f") false (more (Appl (codes "a") false none none) (more (Appl (codes "a") false none none) none)) none) none) none) none) none) ≡ Some 5
row_23 = refl

-- [f(b,b)]
row_24 : broken_by_terms q (Items
    (more (Appl (codes "f") false (more (Appl (codes "b") false none none) (more (Appl (codes "b") false none none) none)) none) none) none) ≡ Some 5
row_24 = refl

-- [a(a)]
row_25 : broken_by_terms q (Items (more (Appl (codes "a") false (more (Appl (codes "a") false none none) none) none) none) none) ≡ Some 5
row_25 = refl

-- [f(f(b))]
row_26 : broken_by_terms q (Items
    (more (Appl (codes "f") false (more (Appl (codes "f") false (more (Appl (codes "b") false none none) none) none) none) none) none) none) ≡ Some 6
row_26 = refl

-- [a,f(b)]
row_27 : broken_by_terms q (Items (more (Appl (codes "a") false none none)
    (more (Appl (codes "f") false (more (Appl (codes "b") false none none) none) none) none)) none) ≡ Some 6
row_27 = refl

-- [a{3,<x>,"y"}]
row_28 : broken_by_terms q (Items
    (more (Appl (codes "a") false none (more (Int (ℤ.pos 3) none)
    (more (Hole (Appl (codes "x") false none none) none) (more (Appl (codes "y") true none none) none)))) none) none) ≡ None
row_28 = refl

-- REC-SPEC Zero SORTS Nat CONS 0 : -> Nat s : Nat -> Nat x' : -> Nat EVAL s(0) x' END-SPEC
abbrev zero : Spec
zero = record {
  name = (w 9 (codes "Zero"));
  sorts = ((w 20 (codes "Nat")) ∷ []);
  constructors = ((record { name = (w 29 (codes "0")); arguments = ([]); sort = (w 36 (codes "Nat")) })
      ∷ (record { name = (w 40 (codes "s")); arguments = ((w 44 (codes "Nat")) ∷ []); sort = (w 51 (codes "Nat")) })
      ∷ (record { name = (w 55 (codes "x'")); arguments = ([]); sort = (w 63 (codes "Nat")) }) ∷ []);
  operators = ([]);
  variables = ([]);
  rules = ([]);
  terms = ((Apply (w 72 (codes "s")) (Terms.more (Apply (w 74 (codes "0")) Terms.none) Terms.none)) ∷ (Apply (w 77 (codes "x'")) Terms.none) ∷ []);
}

-- ["0","x'",s("0")]
quoted_names : broken_by_terms zero
    (Items (more (Appl (codes "0") true none none) (more (Appl (codes "x'") true none none)
    (more (Appl (codes "s") false (more (Appl (codes "0") true none none) none) none) none))) none) ≡ None
quoted_names = refl

-- [s(x_)]
unquoted_name : broken_by_terms zero (Items (more (Appl (codes "s") false (more (Appl (codes "x_") false none none) none) none) none) none) ≡ Some 4
unquoted_name = refl

-- ["s"("0")]
needless_quotes : broken_by_terms zero (Items (more (Appl (codes "s") true (more (Appl (codes "0") true none none) none) none) none) none) ≡ Some 4
needless_quotes = refl

-- [0]
number_for_a_name : broken_by_terms zero (Items (more (Int (ℤ.pos 0) none) none) none) ≡ Some 2
number_for_a_name = refl

-- REC-SPEC Two SORTS A B CONS a : -> A b : -> B p : A B -> A END-SPEC
abbrev two : Spec
two = record {
  name = (w 9 (codes "Two"));
  sorts = ((w 19 (codes "A")) ∷ (w 21 (codes "B")) ∷ []);
  constructors = ((record { name = (w 28 (codes "a")); arguments = ([]); sort = (w 35 (codes "A")) })
      ∷ (record { name = (w 37 (codes "b")); arguments = ([]); sort = (w 44 (codes "B")) })
      ∷ (record { name = (w 46 (codes "p")); arguments = ((w 50 (codes "A")) ∷ (w 52 (codes "B")) ∷ []); sort = (w 57 (codes "A")) }) ∷ []);
  operators = ([]);
  variables = ([]);
  rules = ([]);
  terms = ([]);
}

-- [p(a,b)]
both_sorts : broken_by_terms two
    (Items (more (Appl (codes "p") false (more (Appl (codes "a") false none none) (more (Appl (codes "b") false none none) none)) none) none) none) ≡ None
both_sorts = refl

-- [p(a,a)]
second_sort : broken_by_terms two
    (Items (more (Appl (codes "p") false (more (Appl (codes "a") false none none) (more (Appl (codes "a") false none none) none)) none) none) none) ≡ Some 6
second_sort = refl

-- [p(b,b)]
first_sort : broken_by_terms two
    (Items (more (Appl (codes "p") false (more (Appl (codes "b") false none none) (more (Appl (codes "b") false none none) none)) none) none) none) ≡ Some 6
first_sort = refl

-- the table of a value, with its steps and its cells
abbrev leaf : Tree
leaf = Appl (codes "leaf") false none none

abbrev node : Tree → Tree
node t = Appl (codes "node") false (more t (more t none)) none

tabled : value_line (record { count = true; sizes = true; limits = Bare; form = Table; terms = All; input = form.Term }) none 3 (node (node leaf))
    ≡ codes "[node(leaf,leaf),node(<0>,<0>)]\t3\t8"
unfolding digits
tabled = refl
