-- What the grammar makes of the words: productions with their names as they are written. Nothing is looked up yet.
use Rattle.std.specs.Prelude.{List, Bool, ℕ, ℤ}
use Rattle.std.proofs.Math.Option.{Option}

-- ID | NAT | '-' NAT | 'false'
pub data Primary : Type 0 where
  named : List ℕ → Primary
  whole : ℤ → Primary
  falsity : Primary

-- Primary [('+' | '-') NAT]
pub record Sum : Type 0 where
  pub head : Primary
  pub more : Option ℤ

-- '<=' | '<' | '==' | '>='
pub data Relation : Type 0 where
  le lt eq ge : Relation

-- Sum [Relation Sum]
pub data Comparison : Type 0 where
  lone : Sum → Comparison
  compared : Sum → Relation → Sum → Comparison

pub record Assigned : Type 0 where
  pub target : List ℕ
  pub value : Sum

pub record Synced : Type 0 where
  pub channel : List ℕ
  pub sending : Bool

pub record Edge : Type 0 where
  pub source : List ℕ
  pub target : List ℕ
  pub guard : List Comparison
  pub sync : Option Synced
  pub assignments : List Assigned

pub record Place : Type 0 where
  pub name : List ℕ
  pub invariant : List Comparison

-- 'chan' | 'clock' | 'int' '[' low ',' high ']', and names
pub data Kind : Type 0 where
  channel clock : Kind
  integer : ℤ → ℤ → Kind

pub record Declaration : Type 0 where
  pub kind : Kind
  pub names : List (List ℕ)

pub record Template : Type 0 where
  pub name : List ℕ
  pub declarations : List Declaration
  pub places : List Place
  pub initial : List ℕ
  pub edges : List Edge

pub record Text : Type 0 where
  pub declarations : List Declaration
  pub templates : List Template
  pub system : List (List ℕ)
