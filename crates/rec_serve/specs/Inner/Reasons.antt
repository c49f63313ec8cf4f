-- Why a request has no specified response, and the line that reports it.
--     HasReason store ws e fault    an error of a request has its reason
--     IsReasoned store ws e text    a line is that of an error that has its reason
--     IsReplyOf                     the specified response to a request, or such a line
use Rattle.std.specs.Prelude.{ℕ, ◌≡◌, ◌⊎◌, Some, List, MatchOption, codes}
use Rattle.rx_term.specs.Store.{Store, cells}
use Rattle.rx_shared.specs.State.{store_of}
use Rattle.rec_engine.specs.Cells.{HasNoRoom}
use Rattle.rec_engine.specs.Engine.{EngineState}
use Rattle.rec_engine.specs.declared.engine.errors.EngineFault.{EngineFault}
use Rattle.rec_engine.specs.declared.engine.errors.EngineFault.TheVariants.{Memory, Room, Deep}
use Rattle.rec_syntax.specs.Syntax.{Spec}
use Rattle.rec_serve.specs.Conversation.{IsAnswer}
use Rattle.rec_serve.specs.declared.settings.ServeSettings.{ServeSettings}
use Rattle.rec_serve.specs.declared.workspace.Workspace.{Workspace}

-- the store in which the last request was read is full
abbrev pub IsStoreFull : Workspace → Type 0
IsStoreFull ws = MatchOption ws.bank ⊥
    (λ b. cells (store_of b.value) ≡ (store_of b.value).cap)

-- cells ran out: that store is full, or the engine has no room
abbrev pub LacksCells : {B : Type 0} → (B → Store) → Workspace → EngineState B → Type 0
LacksCells store ws e = IsStoreFull ws ⊎ HasNoRoom (store e.bank) e.work e.memo

-- an error of a request has its reason; for `Deep`, as many calls are pending as the limit allows
abbrev pub HasReason : {B : Type 0} → (B → Store) → Workspace → EngineState B → EngineFault
    → Type 0
HasReason store ws e Memory = Unit {0}
HasReason store ws e Room = LacksCells store ws e
HasReason store ws e Deep = ws.session.settings.depth ≡ Some e.waiting

-- a line is that of an error that has its reason
abbrev pub IsReasoned : {B : Type 0} → (B → Store) → Workspace → EngineState B → List ℕ → Type 0
IsReasoned store ws e text = (text ≡ codes "!memory\n")
    ⊎ (((text ≡ codes "!cells\n") × LacksCells store ws e)
    ⊎ ((text ≡ codes "!depth\n") × (ws.session.settings.depth ≡ Some e.waiting)))

-- the specified response to a request, or the line of an error that has its reason now
abbrev pub IsReplyOf : {B : Type 0} → (B → Store) → Spec → ServeSettings → Workspace
    → EngineState B → List ℕ → List ℕ → Type 0
IsReplyOf store y s ws e request reply = IsAnswer y s request reply ⊎ IsReasoned store ws e reply
