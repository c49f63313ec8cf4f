-- Why a request has no answer, and what is written for it then.
use Rattle.std.proofs.Common.{◌≡◌, ℕ, ◌<◌, Bool, true, List, [], Option, Some, None, IfErr, IfOk, OnOk, Result, Ok, Err}
use Rattle.std.proofs.Common.{inl, inr, refl, sym, ap, subst, ◌∙◌, arith}
use Rattle.std.specs.Prelude.{◌⊎◌, Contains, MatchBool, MatchOption, codes}
use Rattle.std.specs.Ordering.{nat_cmp}
use Rattle.std.specs.FinMap as map
use Rattle.rx_term.specs.Bank.{IsEmptyStore}
use Rattle.rx_term.specs.Steps.{Reclaims}
use Rattle.rx_term.specs.Store.{Store, cells, tree_at}
use Rattle.rx_term.specs.Tree.{Tree}
use Rattle.rx_term.specs.declared.Term.{Term}
use Rattle.rec_syntax.specs.Syntax.{Spec}
use Rattle.rec_memo.specs.Pairs.{Pairs}
use Rattle.rec_engine.specs.Cells.{RoomOnly}
use Rattle.rec_engine.specs.Engine.{EngineState}
use Rattle.rec_engine.specs.Limits.{RoomOrDeepOnly}
use Rattle.rec_engine.specs.declared.engine.errors.EngineFault.{EngineFault}
use Rattle.rec_engine.specs.declared.engine.errors.EngineFault.TheVariants as fault
use Rattle.rec_serve.specs.Answering.{CellsOnly, DeepOnly, text_of}
use Rattle.rec_serve.specs.Conversation.{IsAnswer}
use Rattle.rec_serve.specs.Inner.Banks.{IsEmptied, IsUnrooted}
use Rattle.rec_serve.specs.Inner.Reading.{IsRead}
use Rattle.rec_serve.specs.Inner.Reasons.{HasReason, IsReasoned, IsReplyOf, IsStoreFull}
use Rattle.rec_serve.specs.Replies.{IsReply, IsTooDeep, IsWant}
use Rattle.rec_serve.specs.Inner.Steps.{EndsStep, Replies, StopsStep}
use Rattle.rec_serve.specs.declared.answers.Answered.{Answered}
use Rattle.rec_serve.specs.declared.ending.ServeFault.{ServeFault}
use Rattle.rec_serve.specs.declared.request.Request.{Request}
use Rattle.rec_serve.specs.declared.settings.ServeSettings.{ServeSettings}
use Rattle.rec_serve.specs.declared.workspace.Workspace.{Workspace}
use Rattle.rec_serve.proofs.ReplyLemmas.{replies_weaker, stops_weaker}

-- ---- the store of a request

unkept : (w : Store) → IsUnrooted w → (s : Term) → (0 < w.roots s.0) ⊎ Contains [] s → ⊥
unkept w unrooted s (inl few) = let none = unrooted s.0 in omega (arith, few, none)
unkept w unrooted s (inr in_none) = let few = in_none.1 in omega (arith, few)

-- no term stays of a store without roots, and its roots and limit do
pub emptied : (old new : Store) (cap : ℕ) → IsUnrooted old → old.cap ≡ cap → Reclaims old new [] → IsEmptied new cap
emptied old new cap unrooted limit r = record {
  none = λ t. by t (tree_at new t) refl;
  unrooted = λ t. ap (λ roots. roots t) r.beside.roots ∙ unrooted t;
  limit = r.beside.cap ∙ limit;
}
  where
    by : (t : Term) (o : Option Tree) → tree_at new t ≡ o → o ≡ None
    by t None e = refl
    by t (Some u) e =
        let reached = (r.only t u e).1 in
        absurd (unkept old unrooted reached.0 reached.1.1)

-- a new store is empty
pub emptied_new : (w : Store) (cap : ℕ) → IsEmptyStore w cap → IsEmptied w cap
emptied_new w cap h = record {
  none = λ t. ap (λ (m : map.FinMap nat_cmp Tree). map.get m t.0) h.0 ∙ map.get-empty nat_cmp t.0;
  unrooted = h.2;
  limit = h.3;
}

-- ---- reasons

-- what an engine answers without a depth limit, by the error of a request
pub cells_alone : {A : Type 0} (own w : Store) (work : List Term) (m : Pairs) (r : Result A EngineFault) → RoomOnly w work m r
    → IfErr r (CellsOnly own w work m)
cells_alone own w work m (Ok a) h = tt
cells_alone own w work m (Err fault.Memory) h = tt
cells_alone own w work m (Err fault.Room) h = inr h
cells_alone own w work m (Err fault.Deep) h = tt

pub deep_alone : {A : Type 0} (w : Store) (work : List Term) (m : Pairs) (waiting : ℕ) (depth : Option ℕ) (r : Result A EngineFault)
    → RoomOnly w work m r → IfErr r (DeepOnly waiting depth)
deep_alone w work m waiting depth (Ok a) h = tt
deep_alone w work m waiting depth (Err fault.Memory) h = tt
deep_alone w work m waiting depth (Err fault.Room) h = tt
deep_alone w work m waiting depth (Err fault.Deep) h = absurd h

-- and within one
pub cells_within : {A : Type 0} (own w : Store) (work : List Term) (m : Pairs) (depth : Option ℕ) (waiting : ℕ) (r : Result A EngineFault)
    → RoomOrDeepOnly w work m depth waiting r → IfErr r (CellsOnly own w work m)
cells_within own w work m depth waiting (Ok a) h = tt
cells_within own w work m depth waiting (Err fault.Memory) h = tt
cells_within own w work m depth waiting (Err fault.Room) h = inr h
cells_within own w work m depth waiting (Err fault.Deep) h = tt

pub deep_within : {A : Type 0} (w : Store) (work : List Term) (m : Pairs) (depth : Option ℕ) (waiting : ℕ) (r : Result A EngineFault)
    → RoomOrDeepOnly w work m depth waiting r → IfErr r (DeepOnly waiting depth)
deep_within w work m depth waiting (Ok a) h = tt
deep_within w work m depth waiting (Err fault.Memory) h = tt
deep_within w work m depth waiting (Err fault.Room) h = tt
deep_within w work m depth waiting (Err fault.Deep) h = h

pub at_some : {X : Type 0} (P : X → Type 0) (o : Option X) (x : X) → o ≡ Some x → P x → MatchOption o ⊥ P
at_some P None x e h = absurd (cc e)
at_some P (Some y) x e h = let same : y ≡ x = cc e in rw same h

pub reason_of : {B : Type 0} (store : B → Store) (ws : Workspace) (e : EngineState B) (own : Store) (depth : Option ℕ) (r : Result Answered EngineFault)
    → (cells own ≡ own.cap → IsStoreFull ws) → ws.session.settings.depth ≡ depth → IfErr r (CellsOnly own (store e.bank) e.work e.memo)
    → IfErr r (DeepOnly e.waiting depth) → IfErr r (HasReason store ws e)
reason_of store ws e own depth (Ok a) full same room deep = tt
reason_of store ws e own depth (Err fault.Memory) full same room deep = tt
reason_of store ws e own depth (Err fault.Room) full same (inl few) deep = inl (full few)
reason_of store ws e own depth (Err fault.Room) full same (inr none) deep = inr none
reason_of store ws e own depth (Err fault.Deep) full same room deep = same ∙ deep

-- what is written for a request is its answer, or the line of an error that has its reason
pub reply_is : {B : Type 0} (store : B → Store) (y : Spec) (s : ServeSettings) (ws : Workspace) (e : EngineState B) (q : Request)
    (r : Result Answered EngineFault) → IfErr r (HasReason store ws e)
    → IfOk r (λ a. (line : List ℕ) → IsRead q line → IsAnswer y s line a.text.items) → (line : List ℕ)
    → IsRead q line → IsReplyOf store y s ws e line (text_of r)
reply_is store y s ws e q (Ok a) reason h line is = inl (h line is)
reply_is store y s ws e q (Err fault.Memory) reason h line is = inr (inl refl)
reply_is store y s ws e q (Err fault.Room) reason h line is = inr (inr (inl (refl, reason)))
reply_is store y s ws e q (Err fault.Deep) reason h line is = inr (inr (inr (refl, reason)))

-- ---- replies of a conversation

deep_line : (depth : Option ℕ) (waiting : ℕ) (t : List ℕ) → t ≡ codes "!depth\n" → depth ≡ Some waiting → IsTooDeep depth t
deep_line None waiting t e full = absurd (cc full)
deep_line (Some d) waiting t e full = e

module _ {B : Type 0} (store : B → Store) (y : Spec) (s : ServeSettings) where
  reasoned_want : (ws : Workspace) (e : EngineState B) (t : List ℕ) → ws.session.settings ≡ s → IsReasoned store ws e t → IsWant s.depth t
  reasoned_want ws e t same (inl k) = inl k
  reasoned_want ws e t same (inr (inl k)) = inr (inl k.0)
  reasoned_want ws e t same (inr (inr k)) =
      inr (inr (deep_line s.depth e.waiting t k.0 (sym (ap (λ x. x.depth) same) ∙ k.1)))

  -- a reply that has its reason now is one of a conversation
  now_reply : (ws : Workspace) (e : EngineState B) → ws.session.settings ≡ s → (r t : List ℕ) → IsReplyOf store y s ws e r t → IsReply y s r t
  now_reply ws e same r t (inl a) = inl a
  now_reply ws e same r t (inr h) = inr (reasoned_want ws e t same h)

  pub replies_now : (z : Spec) (u : ServeSettings) (ws : Workspace) (e : EngineState B) (m : Bool) (old left remaining was now : Option (List ℕ))
      → m ≡ true → z ≡ y → u ≡ s → ws.session.settings ≡ u
      → MatchBool m (Replies (IsReplyOf store z u ws e) old left was now) (EndsStep old remaining was now)
      → Replies (IsReply y s) old left was now
  replies_now z u ws e m old left remaining was now is spec settings same h =
      let step : Replies (IsReplyOf store z u ws e) old left was now =
      subst (λ (b : Bool). MatchBool b (Replies (IsReplyOf store z u ws e) old left was now) (EndsStep old remaining was now)) is h in
      let here : Replies (IsReplyOf store y s ws e) old left was now =
      subst (λ (v : ServeSettings). Replies (IsReplyOf store y v ws e) old left was now) settings
      (subst (λ x. Replies (IsReplyOf store x u ws e) old left was now) spec step) in
      replies_weaker (IsReplyOf store y s ws e) (IsReply y s) (now_reply ws e (same ∙ settings)) old left was now here

  pub stops_now : (z : Spec) (u : ServeSettings) (ws : Workspace) (e : EngineState B) (f : ServeFault) (old was now : Option (List ℕ))
      → z ≡ y → u ≡ s → ws.session.settings ≡ u → StopsStep (IsReplyOf store z u ws e) f old was now → StopsStep (IsReply y s) f old was now
  stops_now z u ws e f old was now spec settings same h =
      let here : StopsStep (IsReplyOf store y s ws e) f old was now =
      subst (λ (v : ServeSettings). StopsStep (IsReplyOf store y v ws e) f old was now) settings
      (subst (λ x. StopsStep (IsReplyOf store x u ws e) f old was now) spec h) in
      stops_weaker (IsReplyOf store y s ws e) (IsReply y s) (now_reply ws e (same ∙ settings)) f old was now here

-- what holds at a value holds of each
pub if_ok_on : {X E : Type 0} (When : X → Type 0) (P : Type 0) (r : Result X E) → OnOk r P → IfOk r (λ x. When x → P)
if_ok_on When P (Ok x) h = λ when. h
if_ok_on When P (Err e) h = tt
