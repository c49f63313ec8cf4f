-- A slot that is taken for a body and linked, as a step of the store.
use Rattle.std.proofs.Common.{◌≡◌, ◌≢◌, ℕ, ◌%◌, ◌<◌, ◌∷◌, length, Some, None, sym, ap, subst, arith}
use Rattle.std.specs.Prelude.{slice_set}
use Rattle.std.proofs.lemmas.Nat.{mod_below}
use Rattle.rx_arena.specs.declared.CellBody.{CellBody}
use Rattle.rx_arena.specs.Put.{put}
use Rattle.rx_arena.specs.Arena.{ArenaState, taken_at, chain_at, IsLoose, new_cell, IsArena}
use Rattle.rx_shared.specs.Bodies.{cell_of, IsWritten}
use Rattle.rx_shared.specs.Tidy.{IsTidy, cell_in}
use Rattle.rx_shared.specs.declared.bank.SharedBank.{SharedBank}
use Rattle.rx_shared.proofs.ArenaLemmas as arenas
use Rattle.rx_shared.proofs.MakingLemmas.{Puts}
use Rattle.rx_shared.proofs.PowerLemmas.{positive}

-- there is a chain
pub some_chains : (b : SharedBank) → 0 < length b.arena.chains
some_chains b = let e = b.chained in let p = positive b.bits in omega (arith, e, p)

pub chain_below : (b : SharedBank) (c h : ℕ) → c ≡ h % length b.arena.chains → c < length b.arena.chains
chain_below b c h e = subst (λ k. k < length b.arena.chains) (sym e) (mod_below h (length b.arena.chains) (some_chains b))

module _ (b : SharedBank) (mid new : ArenaState) (k c : ℕ) (body : CellBody) (law : IsArena new) (below : k < b.arena.cap)
    (free : taken_at b.arena k ≡ None) (cells : mid.cells ≡ put b.arena.cells k (Some (new_cell body)))
    (rest : mid ≡ record b.arena { cells = mid.cells; spare = mid.spare }) (loose : IsLoose mid k)
    (chain : c ≡ body.hash % length b.arena.chains)
    (after : new ≡ record mid { chains = slice_set mid.chains c (k ∷ chain_at mid c) }) where
  lt : c < length b.arena.chains
  lt = chain_below b c body.hash chain

  pub linked-chains : length new.chains ≡ length b.arena.chains
  linked-chains = arenas.added-chains b.arena mid new k c body b.tidy law free cells rest loose lt chain after

  pub linked-cap : new.cap ≡ b.arena.cap
  linked-cap = arenas.added-cap b.arena mid new k c body b.tidy law free cells rest loose lt chain after

  pub linked-spare : new.spare ≡ mid.spare
  linked-spare = arenas.added-spare b.arena mid new k c body b.tidy law free cells rest loose lt chain after

  pub linked-tidy : IsWritten body → IsTidy new
  linked-tidy = arenas.tidy-added b.arena mid new k c body b.tidy law free cells rest loose lt chain after

  pub linked-here : taken_at new k ≡ Some (new_cell body)
  linked-here = arenas.added-here b.arena mid new k c body b.tidy law free cells rest loose lt chain after

  pub linked-else : (s : ℕ) → s ≢ k → taken_at new s ≡ taken_at b.arena s
  linked-else = arenas.added-else b.arena mid new k c body b.tidy law free cells rest loose lt chain after

  pub linked-puts : Puts b.arena new k (cell_of body)
  linked-puts = record {
    within = below;
    cap = linked-cap;
    taken = ap cell_in (arenas.added-here b.arena mid new k c body b.tidy law free cells rest loose lt chain after);
    others = λ t ne. ap cell_in (arenas.added-else b.arena mid new k c body b.tidy law free cells rest loose lt chain after t ne);
    roots = arenas.added-roots b.arena mid new k c body b.tidy law free cells rest loose lt chain after;
    free = ap cell_in free;
  }
