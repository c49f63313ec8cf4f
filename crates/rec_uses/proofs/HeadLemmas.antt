-- The words of a term come out in the order of the text.
use Rattle.std.proofs.lemmas.Bool.{lt-ltb}
use Rattle.std.specs.Prelude.{if◌then◌else◌}
use Rattle.std.proofs.Common.{◌≡◌, ℕ, suc, ◌+◌, ◌-◌, Bool, List, [], ◌∷◌, ◌++◌, refl, sym, ap, ◌∙◌, arith, append_assoc}
use Rattle.rec_syntax.specs.Tokens.{Word}
use Rattle.rec_syntax.specs.Syntax.{Term, Terms, Apply, none, more, subterms, subterms_all}
use Rattle.rec_syntax.specs.Nodes.{Node, flat, flat_all, term_count}
use Rattle.rec_sorts.specs.SpecRules.{heads}
use Rattle.rec_sorts.proofs.StackLemmas.{map-append}
use Rattle.rec_uses.specs.Inner.Heads.{State, Waiting, completed, pass, passed}

passed-append : (s : State) (ms ns : List Node) → passed s (ms ++ ns) ≡ passed (passed s ns) ms
passed-append s [] ns = refl
passed-append s (m ∷ ms) ns = ap (λ (t : State). pass t m) (passed-append s ms ns)

abbrev words : Term → List Word
words t = heads (subterms t)

abbrev words_all : Terms → List Word
words_all ts = heads (subterms_all ts)

-- a word that waits for this many arguments, before others
abbrev awaits : Word → ℕ → List Waiting → List Word → State
awaits w k ws out = record { waiting = record { word = w; left = k } ∷ ws; complete = out }

abbrev next_of : Bool → Word → ℕ → List Waiting → List Word → State
next_of b w k ws out = if b then record { waiting = record { word = w; left = k } ∷ ws; complete = out } else completed ws (w ∷ out)

-- a word that still waits for one argument
completed-more : (w : Word) (j : ℕ) (ws : List Waiting) (out : List Word)
    → completed (record { word = w; left = suc (suc j) } ∷ ws) out ≡ awaits w (suc j) ws out
completed-more w j ws out =
    ap (λ (b : Bool). next_of b w (suc (suc j) - 1) ws out) (lt-ltb 1 (suc (suc j)) (omega arith))
    ∙ ap (λ (k : ℕ). awaits w k ws out) (let e : suc (suc j) - 1 ≡ suc j = omega arith in e)

mutual
  -- a term is one argument more
  pub passed-term : (t : Term) (ws : List Waiting) (out : List Word)
      → passed (record { waiting = ws; complete = out }) (flat t) ≡ completed ws (words t ++ out)
  passed-term (Apply w none) ws out = refl
  passed-term (Apply w (more t ts)) ws out =
      let s : State = record { waiting = ws; complete = out } in
      let e : term_count ts + 1 ≡ suc (term_count ts) = omega arith in
      ap (λ (k : ℕ). passed s (flat_all (more t ts) ++ record { word = w; count = k } ∷ [])) e
      ∙ passed-append s (flat_all (more t ts)) (record { word = w; count = suc (term_count ts) } ∷ [])
      ∙ passed-append (awaits w (suc (term_count ts)) ws out) (flat t) (flat_all ts)
      ∙ ap (λ (q : State). passed q (flat t)) (passed-terms ts w 0 ws out (suc (term_count ts)) (omega arith))
      ∙ passed-term t (record { word = w; left = 1 } ∷ ws) (words_all ts ++ out)
      ∙ ap (λ us. completed ws (w ∷ us)) (sym (append_assoc (words t) (words_all ts) out)
      ∙ ap (λ us. us ++ out) (sym (map-append _ (subterms t) (subterms_all ts))))

  -- terms are so many arguments; more are awaited
  passed-terms : (ts : Terms) (w : Word) (j : ℕ) (ws : List Waiting) (out : List Word) (k : ℕ) → k ≡ term_count ts + suc j
      → passed (awaits w k ws out) (flat_all ts) ≡ awaits w (suc j) ws (words_all ts ++ out)
  passed-terms none w j ws out k is = ap (λ (n : ℕ). awaits w n ws out) (let e : k ≡ suc j = omega (arith, is) in e)
  passed-terms (more t ts) w j ws out k is =
      passed-append (awaits w k ws out) (flat t) (flat_all ts)
      ∙ ap (λ (q : State). passed q (flat t)) (passed-terms ts w (suc j) ws out k (omega (arith, is)))
      ∙ passed-term t (record { word = w; left = suc (suc j) } ∷ ws) (words_all ts ++ out)
      ∙ completed-more w j ws (words t ++ (words_all ts ++ out))
      ∙ ap (λ us. awaits w (suc j) ws us) (sym (append_assoc (words t) (words_all ts) out)
      ∙ ap (λ us. us ++ out) (sym (map-append _ (subterms t) (subterms_all ts))))
