-- Theorems that rest on definitions of specs/.
pub mod FromC
pub mod NoLookAhead
pub mod OnTicks
