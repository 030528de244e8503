pub mod Swing
