pub mod Middle
