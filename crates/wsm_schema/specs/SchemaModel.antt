-- A schema as contracts see it.
use Rattle.std.specs.{Prelude.{◌≡◌, ℕ, Bool, List, [], refl}, Coded.{Coded, code_by, coded×, coded_ℕ, coded_bool, coded_list}}
use Rattle.wsm_schema.specs.{Tree.Parts, Tokens.tree_code}
use Rattle.wsm_lists.specs.declared.values.ElementKind.{ElementKind}
use Rattle.wsm_lists.specs.declared.values.ElementKind.TheVariants as kind

-- a tree between two nodes, with the sync edges, the elements, and the reads, writes and roles of the nodes
pub record SchemaModel : Type 0 where
  pub start : ℕ
  pub finish : ℕ
  pub body : Parts
  pub syncs : List (ℕ × ℕ)
  pub elements : List (ℕ × ElementKind)
  pub reads : List (ℕ × ℕ × Bool)
  pub writes : List (ℕ × ℕ)
  pub roles : List (ℕ × ℕ)

-- a schema with empty lists
abbrev pub plain : ℕ → ℕ → Parts → SchemaModel
plain start finish body = record { start = start; finish = finish; body = body; syncs = []; elements = []; reads = []; writes = []; roles = [] }

-- the codes by which a proof tells schemas apart
abbrev is_text : ElementKind → Bool
is_text kind.Int = Bool.false
is_text kind.Text = Bool.true

abbrev kind_from : Bool → ElementKind
kind_from Bool.false = kind.Int
kind_from Bool.true = kind.Text

pub kind_from-is_text : (k : ElementKind) → kind_from (is_text k) ≡ k
kind_from-is_text kind.Int = refl
kind_from-is_text kind.Text = refl

abbrev kind_code : Coded ElementKind
kind_code = code_by Bool coded_bool is_text kind_from kind_from-is_text

abbrev read_code : Coded (ℕ × ℕ × Bool)
read_code = code_by (ℕ × (ℕ × Bool)) (coded× coded_ℕ (coded× coded_ℕ coded_bool)) (λ r. (r.0, (r.1, r.2))) (λ r. (r.0, r.1.0, r.1.1)) (λ _. refl)

abbrev pairs_code : Coded (List (ℕ × ℕ))
pairs_code = coded_list (coded× coded_ℕ coded_ℕ)

-- a schema by its parts, and its tree by its tokens
abbrev pub schema_code : Coded SchemaModel
schema_code =
    code_by (ℕ × (ℕ × (Parts × (List (ℕ × ℕ) × (List (ℕ × ElementKind) × (List (ℕ × ℕ × Bool) × (List (ℕ × ℕ) × List (ℕ × ℕ))))))))
    (coded× coded_ℕ (coded× coded_ℕ (coded× tree_code (coded× pairs_code (coded× (coded_list (coded× coded_ℕ kind_code)) (coded× (coded_list read_code) (coded× pairs_code pairs_code)))))))
    (λ n. (n.start, (n.finish, (n.body, (n.syncs, (n.elements, (n.reads, (n.writes, n.roles))))))))
    (λ p. record { start = p.0; finish = p.1.0; body = p.1.1.0; syncs = p.1.1.1.0; elements = p.1.1.1.1.0; reads = p.1.1.1.1.1.0; writes = p.1.1.1.1.1.1.0; roles = p.1.1.1.1.1.1.1 })
    (λ _. refl)
