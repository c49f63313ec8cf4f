-- The pages by which references of terms are found in a list.
use Rattle.std.specs.Prelude.{ℕ, ◌≡◌, ◌<◌, ◌≤◌, ◌^◌, ◌/◌, ◌%◌, List, [], Vec, get_or, length, map}
use Rattle.std.specs.declared.alloc.Global.{Global}

-- Keys: what a contract sees of references that are numbered: the references, in their order
pub record Keys : Type 0 where
  pub keys : List ℕ

-- entry_in page k: the entry at a place of a page, or 0 if the page has none there
abbrev pub entry_in : List ℕ → ℕ → ℕ
entry_in page k = get_or page k 0

-- page_at pages p: the entries of a page, if there is one
abbrev pub page_at : List (Vec ℕ Global) → ℕ → List ℕ
page_at pages p = get_or (map (λ (page : Vec ℕ Global). page.items) pages) p []

-- entry_at pages t: the entry of a reference, or 0 if it has none
abbrev pub entry_at : List (Vec ℕ Global) → ℕ → ℕ
entry_at pages t = entry_in (page_at pages (t / 1024)) (t % 1024)

-- ArePaged ks pages: the entry of each reference is its index
pub record ArePaged (ks : List ℕ) (pages : List (Vec ℕ Global)) : Type 0 where
  pub few : length ks ≤ 2 ^ 31
  pub entries : (i : ℕ) → i < length ks → entry_at pages (get_or ks i 0) ≡ i
