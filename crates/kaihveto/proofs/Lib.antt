pub mod MendReads
